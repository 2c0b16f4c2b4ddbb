-- The parts before place i are read.
use Rattle.saved_test.proofs.ReadingLaws.{part_made, held_few, held_inside, offset_next, offset_first}
use Rattle.saved_test.specs.Reading.{record_in, part_in, words_in}
use Rattle.saved_test.specs.Form.{record_offset, form_size, live_count}
use Rattle.bucket_test.proofs.TurningLaws.{part_length, part_lent, words_none, words_all, part_put}
use Rattle.bucket_test.specs.declared.Threshold.{Threshold}
use Rattle.walk.specs.Units.{wide}
use lib.ListN.{length}
use native.Mathlib.Omega.{arith}
use Prim.Native.Nat.{◌+◌, ◌*◌, ◌≤◌}
use mathlib.Core.Path.{◌≡◌, refl, ap, ◌∙◌}
use borrow.Author.Rules.{rules}
use Rattle.saved_test.proofs.reading.parts_in.Goals.{After-live_count-n}
use Rattle.saved_test.proofs.reading.parts_in.Goals as goal

pub loop-i-init : goal.loop-i-init
unfolding wide
loop-i-init c = let a = c.args in (omega arith, c.requires.1, refl, words_none (part_in a.bytes.now a.p.now.count) a.words.now, offset_first a.bytes.now a.p.now.count)

pub record_in-t-requires : goal.record_in-t-requires
unfolding form_size record_offset
record_in-t-requires c = omega (arith, c.requires.2.sized)

live_is : (c : After-live_count-n)
    → c.live_count-n.result ≡ live_count (record_in c.args.bytes.now c.loop-i.i)
unfolding record_offset
live_is c = c.live_count-n.ensures.0 ∙ ap (λ (t : Threshold). live_count t) c.record_in-t.ensures

fits-at : (c : After-live_count-n)
    → (c.live_count-n.result ≤ wide)
    × (c.loop-i.at + 8 * c.live_count-n.result ≤ length c.args.bytes.now)
fits-at c =
    let l = c.loop-i in
    let h = c.loop-i-test.true in
    (held_few _ _ c.requires.2 l.i h _ l.at (live_is c) l.invariant.4, held_inside _ _ c.requires.2 l.i h _ l.at (live_is c) l.invariant.4)

pub part_in-requires : goal.part_in-requires
unfolding wide
part_in-requires c =
    let l = c.loop-i in
    let k = fits-at (goal.at.part_in-requires c).After-live_count-n in (
      rw (part_lent l.i l.words) (part_length l.words c.args.p.now.count l.i (l.invariant.2 ∙ l.invariant.1) c.loop-i-test.true),
      k.0,
      k.1,
    )

pub overflow_mul-at-in-loop-i : goal.overflow_mul-at-in-loop-i
overflow_mul-at-in-loop-i c = let k = fits-at (goal.at.overflow_mul-at-in-loop-i c).After-live_count-n in omega arith

pub overflow_add-at-in-loop-i : goal.overflow_add-at-in-loop-i
overflow_add-at-in-loop-i c = let k = fits-at (goal.at.overflow_add-at-in-loop-i c).After-live_count-n in omega arith

pub loop-i-preserved : goal.loop-i-preserved
loop-i-preserved c =
    let here = (goal.at.loop-i-preserved c).After-live_count-n in
    let l = c.loop-i in
    let made = part_made c.args.bytes.now c.args.p.now.count l.i _ _ _ (live_is here) l.invariant.4 c.part_in.ensures in (
      omega arith,
      l.invariant.1,
      search rules,
      part_put (part_in c.args.bytes.now c.args.p.now.count) _ l.i (omega arith) l.words l.invariant.2 l.invariant.3 _ made,
      rw (live_is here, l.invariant.4) (offset_next c.args.bytes.now c.args.p.now.count l.i),
    )

pub returns : goal.returns
unfolding words_in
returns c =
    let a = c.args in
    let l = c.loop-i in
    l.invariant.3 ∙ words_all (part_in a.bytes.now a.p.now.count) a.words.now a.p.now.count l.i c.requires.1 (omega arith)

-- The thresholds before place i pass.
use mathlib.Core.Path.{◌≡◌, sym, ap, ◌∙◌}
use mathlib.Core.Bool.{false}
use Prim.Native.Nat.{ℕ, ◌+◌, ◌*◌, ◌<◌, ◌≤◌}
use native.Mathlib.Omega.{arith}
use mathlib.Core.List.{List}
use lib.ListN.{length, take, length-take}
use lib.Seq.{get_or-take}
use borrow.Author.Rules.{rules}
use Rattle.walk.specs.Spending.{portioned}
use Rattle.walk.specs.Units.{wide}
use Rattle.plan.proofs.PlaceLaws.{passed, failed, sought_none, sought_next, sought_here, sought_nowhere}
use Rattle.plan.proofs.SpendingLaws.{spent_is}
use Rattle.plan.specs.Tables.{portion_of}
use Rattle.bucket_test.specs.declared.Threshold.{Threshold}
use Rattle.saved_test.specs.Form.{record_offset, form_size, live_count}
use Rattle.saved_test.specs.Reading.{record_in, mass_offset}
use Rattle.saved_test.specs.Inner.{part_passes}
use Rattle.saved_test.proofs.ReadingLaws.{offset_first, held_few, held_inside, held_next, held_sound}
use Rattle.saved_test.proofs.reading.parts_sound.Goals.{After-record_in-t, After-record_sound_in}
use Rattle.saved_test.proofs.reading.parts_sound.Goals as goal

pub overflow_mul-at : goal.overflow_mul-at
overflow_mul-at c = let k = c.requires.1.few in omega arith

pub overflow_add-at : goal.overflow_add-at
overflow_add-at c = let k = c.requires.1.few in omega arith

pub loop-i-init : goal.loop-i-init
loop-i-init c = (offset_first _ _, λ q. sought_none false _)

below : {n i : ℕ} (xs : List ℕ) → i < length (take n xs) → i < n
below {n} xs h = omega (arith, length-take n xs)

pub record_in-t-requires : goal.record_in-t-requires
unfolding form_size record_offset
record_in-t-requires c = omega (arith, c.requires.1.held.sized, below c.args.p.now.allowances c.loop-i-test.true)

-- what is known of the threshold at place i
module _ (c : After-record_in-t) where
  is : c.record_in-t.result ≡ record_in c.args.bytes.now c.loop-i.i
  unfolding record_offset
  is = c.record_in-t.ensures

  live : live_count c.record_in-t.result ≡ live_count (record_in c.args.bytes.now c.loop-i.i)
  live = ap (λ (t : Threshold). live_count t) is

  lent : (live_count c.record_in-t.result ≤ wide)
      × (c.loop-i.at + 8 * live_count c.record_in-t.result ≤ length c.args.bytes.now)
      × (c.loop-i.at + 8 * live_count c.record_in-t.result ≡ mass_offset c.args.bytes.now c.args.p.now.count (c.loop-i.i + 1))
  lent =
      let l = c.loop-i in
      let h = below c.args.p.now.allowances c.loop-i-test.true in (
        held_few _ _ c.requires.1.held l.i h _ l.at live l.invariant.0,
        held_inside _ _ c.requires.1.held l.i h _ l.at live l.invariant.0,
        held_next _ _ c.requires.1.held l.i h _ l.at live l.invariant.0,
      )

pub shared_ref_as_front-allowance-items : goal.shared_ref_as_front-allowance-items
shared_ref_as_front-allowance-items c = c.requires.1.few

pub spending_at-e-requires : goal.spending_at-e-requires
spending_at-e-requires c =
    let here = below c.args.p.now.allowances c.loop-i-test.true in
    let k = c.requires.1.spendable c.requires.0 in
    rw (get_or-take c.args.p.now.count c.args.p.now.allowances c.loop-i.i 0 here)
    (c.requires.1.allowed c.loop-i.i here, k.0, k.1)

pub record_sound_in-requires : goal.record_sound_in-requires
record_sound_in-requires c = let b = (goal.at.record_sound_in-requires c).After-record_in-t in ((lent b).0, (lent b).1)

judged : (c : After-record_sound_in) → let a = c.args in portion_of a.p.now a.n ≡ a.portion → c.record_sound_in.result ≡ part_passes a.p.now a.bytes.now a.n a.ones c.loop-i.i
unfolding record_offset
judged c q =
    let l = c.loop-i in
    let is : c.record_in-t.result ≡ record_in c.args.bytes.now l.i = c.record_in-t.ensures in
    let allowance = get_or-take c.args.p.now.count c.args.p.now.allowances l.i 0 (below c.args.p.now.allowances c.loop-i-test.true) in
    let spent = c.spending_at-e.ensures ∙ ap (portioned c.args.portion) allowance in
    c.record_sound_in.ensures
    ∙ rw (spent_is c.args.p.now l.i c.args.n _ _ (sym q) spent)
    (held_sound _ _ c.requires.1.held l.i (below c.args.p.now.allowances c.loop-i-test.true) _ l.at (ap (λ (t : Threshold). live_count t) is) l.invariant.0 _ is _ _ _)

pub returns-then-not-record_sound_in : goal.returns-then-not-record_sound_in
returns-then-not-record_sound_in c q =
    sought_here false _ (c.loop-i.invariant.1 q) (below c.args.p.now.allowances c.loop-i-test.true) (failed (judged (goal.at.returns-then-not-record_sound_in c).After-record_sound_in q) c.if-not-record_sound_in.true-raw)

pub overflow_mul-at-in-loop-i : goal.overflow_mul-at-in-loop-i
overflow_mul-at-in-loop-i c = let k = lent (goal.at.overflow_mul-at-in-loop-i c).After-record_in-t in omega (arith, k.0, c.live_count.ensures.0)

pub overflow_add-at-in-loop-i : goal.overflow_add-at-in-loop-i
overflow_add-at-in-loop-i c = let k = lent (goal.at.overflow_add-at-in-loop-i c).After-record_in-t in omega (arith, k.1, c.live_count.ensures.0)

pub loop-i-preserved : goal.loop-i-preserved
loop-i-preserved c =
    let l = c.loop-i in (
      rw c.live_count.ensures.0 (lent (goal.at.loop-i-preserved c).After-record_in-t).2,
      λ q. sought_next false _ (l.invariant.1 q) (below c.args.p.now.allowances c.loop-i-test.true) (passed (judged (goal.at.loop-i-preserved c).After-record_sound_in q) c.if-not-record_sound_in.false-raw),
    )

pub returns : goal.returns
returns c q =
    let long : length c.args.p.now.allowances ≡ 10 = search rules in
    let k = c.requires.1.few in
    sought_nowhere false _ (c.loop-i.invariant.1 q) (omega (arith, length-take c.args.p.now.count c.args.p.now.allowances))

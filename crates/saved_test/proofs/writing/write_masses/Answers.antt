-- The masses of the thresholds before place i are put.
use Rattle.saved_test.proofs.WritingLaws.{masses_put, masses_at, masses_room}
use Rattle.saved_test.specs.Form.{header_size, record_size, live_count, masses_to, mass_bytes}
use Rattle.little.proofs.Putting.{put_none}
use Rattle.little.specs.Little.{put_at}
use Rattle.bucket_test.proofs.TurningLaws.{part_length, part_lent}
use Rattle.bucket_test.specs.Turn.{no_record}
use Rattle.bucket_test.specs.Words.{part_at}
use Rattle.plan.specs.Places.{join_to}
use Rattle.walk.specs.Units.{wide}
use lib.ListN.{length, get_or}
use native.Mathlib.Omega.{arith}
use Prim.Native.Nat.{ℕ, ◌+◌, ◌*◌, ◌≤◌}
use mathlib.Core.Path.{◌≡◌, refl, sym, ap, ◌∙◌}
use borrow.Author.Rules.{rules}
use Rattle.saved_test.proofs.writing.write_masses.Goals.{After-live_count-n}
use Rattle.saved_test.proofs.writing.write_masses.Goals as goal

pub loop-i-init : goal.loop-i-init
unfolding join_to masses_to
loop-i-init c = let a = c.args in (omega arith, refl, sym (put_none (header_size + record_size * length a.records.now) a.bytes.now), omega arith)

pub slice_bounds-write_part-end : goal.slice_bounds-write_part-end
unfolding wide
slice_bounds-write_part-end c = omega (arith, c.requires.1)

few-at : (c : After-live_count-n) → c.live_count-n.result ≤ wide
few-at c = rw c.live_count-n.ensures.0 (c.requires.2 c.loop-i.i c.loop-i-test.true)

room_at : (c : After-live_count-n) → c.loop-i.at + 8 * c.live_count-n.result ≤ length c.args.bytes.now
room_at c =
    let l = c.loop-i in
    masses_room c.args.records.now c.args.words.now (header_size + record_size * length c.args.records.now) l.i _ _ c.live_count-n.ensures.0 l.invariant.3 (length c.args.records.now) _ c.loop-i-test.true c.requires.3

pub write_part-requires : goal.write_part-requires
unfolding wide
write_part-requires c =
    let here = (goal.at.write_part-requires c).After-live_count-n in
    let l = c.loop-i in (
      rw (part_lent l.i c.args.words.now, part_length c.args.words.now (length c.args.records.now) l.i c.requires.1 c.loop-i-test.true) (few-at here),
      rw l.invariant.1 (room_at here),
    )

pub overflow_mul-at-in-loop-i : goal.overflow_mul-at-in-loop-i
overflow_mul-at-in-loop-i c = let k = few-at (goal.at.overflow_mul-at-in-loop-i c).After-live_count-n in omega arith

pub overflow_add-at-in-loop-i : goal.overflow_add-at-in-loop-i
overflow_add-at-in-loop-i c = let k = room_at (goal.at.overflow_add-at-in-loop-i c).After-live_count-n in omega arith

pub loop-i-preserved : goal.loop-i-preserved
loop-i-preserved c =
    let l = c.loop-i in
    let live = c.live_count-n.ensures.0 in
    let base = header_size + record_size * length c.args.records.now in (
      omega arith,
      search rules,
      masses_put c.args.records.now c.args.words.now base l.i _ _ live l.invariant.3 _ c.args.bytes.now l.bytes _ (part_lent l.i c.args.words.now) l.invariant.2 c.write_part.ensures (omega (arith, c.requires.3)),
      masses_at c.args.records.now c.args.words.now base l.i _ _ live l.invariant.3,
    )

pub returns : goal.returns
returns c =
    let l = c.loop-i in
    let n : l.i ≡ length c.args.records.now = omega arith in
    let a = c.args in
    l.invariant.2 ∙ ap (λ (k : ℕ). put_at (header_size + record_size * length a.records.now) (join_to k (λ m. mass_bytes (live_count (get_or a.records.now m no_record)) (part_at m a.words.now))) a.bytes.now) n

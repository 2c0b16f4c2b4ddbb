-- The masses of the thresholds before place i are counted.
use mathlib.Core.Path.{◌≡◌, refl}
use native.Mathlib.Omega.{arith}
use Prim.Native.Nat.{◌+◌, ◌*◌, ◌≤◌}
use lib.ListN.{length}
use Rattle.walk.specs.Units.{wide}
use Rattle.saved_test.specs.Form.{record_offset, form_size, mass_size, live_count, masses_to}
use Rattle.saved_test.specs.Reading.{mass_offset}
use Rattle.saved_test.proofs.ReadingLaws.{offset_first}
use Rattle.calls.proofs.TurnLaws.{few, old_next, old_small, new_few, new_live, new_masses_lem}
use Rattle.calls.proofs.turns.Turning.masses_after.Goals.{In-loop-i, After-record_in-t}
use Rattle.calls.proofs.turns.Turning.masses_after.Goals as goal

pub loop-i-init : goal.loop-i-init
unfolding masses_to
loop-i-init c = (omega arith, refl, offset_first _ _, refl)

pub record_in-t-requires : goal.record_in-t-requires
unfolding form_size record_offset
record_in-t-requires c = omega (arith, c.requires.0.form.sized, c.loop-i-test.true)

pub turn_at-next-requires : goal.turn_at-next-requires
unfolding record_offset
turn_at-next-requires c =
    let l = c.loop-i in
    let is = c.record_in-t.ensures in
    (c.requires.0, c.loop-i-test.true, is, l.invariant.2, rw is (omega (arith, c.requires.1 l.i c.loop-i-test.true, l.invariant.1)))

pub overflow_add-masses : goal.overflow_add-masses
unfolding wide
overflow_add-masses c =
    let l = c.loop-i in
    let live = new_live c.requires.0 l.i c.loop-i-test.true _ c.turn_at-next.ensures.0 _ c.live_count-masses.ensures.0 in
    omega (arith, live, l.invariant.3, new_few c.requires.0 l.i l.invariant.0, few c.requires.0, l.invariant.0)

-- where the next old masses stand
old : (c : After-record_in-t) → let t = c.record_in-t.result in
    (c.loop-i.at + mass_size * live_count t ≤ length c.args.self.now.saved.now)
    × (c.loop-i.at + mass_size * live_count t ≡ mass_offset c.args.self.now.saved.now c.args.self.now.plan.now.count (c.loop-i.i + 1))
unfolding record_offset
old c = old_next c.requires.0 c.loop-i.i c.loop-i-test.true _ c.record_in-t.ensures c.loop-i.at c.loop-i.invariant.2

pub overflow_add-at-in-loop-i : goal.overflow_add-at-in-loop-i
overflow_add-at-in-loop-i c = omega (arith, (old (goal.at.overflow_add-at-in-loop-i c).After-record_in-t).0, old_small c.requires.0, c.live_count.ensures.0)

pub loop-i-preserved : goal.loop-i-preserved
loop-i-preserved c =
    let l = c.loop-i in (
      omega (arith, c.loop-i-test.true),
      omega (arith, l.invariant.1, c.turn_at-next.auto.part),
      rw c.live_count.ensures.0 (old (goal.at.loop-i-preserved c).After-record_in-t).1,
      rw l.invariant.3 (new_masses_lem c.requires.0 l.i c.loop-i-test.true _ c.turn_at-next.ensures.0 _ c.live_count-masses.ensures.0),
    )

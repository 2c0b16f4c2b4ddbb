-- The masses of the thresholds before place i are counted.
use mathlib.Core.Path.{◌≡◌}
use Prim.Native.Nat.{◌-◌, ◌≤◌}
use lib.ListN.{length}
use Rattle.saved_test.specs.Form.{masses_to}
use Rattle.saved_test.specs.Reading.{mass_offset}
use Rattle.calls.specs.Inner.{new_record}
use Rattle.calls.proofs.turns.Turning.masses_after.Given as goal

abbrev pub invariant-loop-i : goal.invariant-loop-i
invariant-loop-i l =
    (l.i ≤ l.count) × (length l.part ≡ length l.initial.part) × (l.at ≡ mass_offset l.self.saved.now l.count l.i) × (l.masses ≡ masses_to (new_record l.self.plan.now l.self.n l.self.ones l.self.saved.now) l.i)

abbrev pub decreases-loop-i : goal.decreases-loop-i
decreases-loop-i l = l.count - l.i

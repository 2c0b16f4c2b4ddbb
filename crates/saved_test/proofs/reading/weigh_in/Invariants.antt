-- The masses before place i are weighed.
use Prim.Native.Nat.{◌-◌, ◌≤◌}
use lib.ListN.{replicate}
use Rattle.walk.specs.Units.{wide}
use Rattle.walk.specs.Weighing.{Weighs}
use Rattle.little.specs.Little.{column, filled}
use Rattle.saved_test.specs.Form.{mass_size}
use Rattle.saved_test.proofs.reading.weigh_in.Given as goal

abbrev pub invariant-loop-i : goal.invariant-loop-i
invariant-loop-i l = (l.i ≤ l.count) × Weighs (filled l.count (column mass_size l.at mass_size l.bytes) (replicate wide 0)) l.i l.w

abbrev pub decreases-loop-i : goal.decreases-loop-i
decreases-loop-i l = l.count - l.i

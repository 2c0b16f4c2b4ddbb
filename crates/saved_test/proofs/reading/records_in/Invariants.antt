-- The records before place i are read.
use Rattle.saved_test.specs.Reading.{record_in}
use Rattle.bucket_test.specs.Turn.{start_record}
use Rattle.plan.specs.Plan.{count_limit}
use Rattle.plan.specs.Places.{over_to}
use lib.ListN.{length, replicate}
use Prim.Native.Nat.{◌≤◌, ◌-◌}
use mathlib.Core.Path.{◌≡◌}
use Rattle.saved_test.proofs.reading.records_in.Given as goal

abbrev pub invariant-loop-i : goal.invariant-loop-i
invariant-loop-i l = (l.i ≤ l.count) × (length l.records ≡ count_limit) × (l.records ≡ over_to l.i (λ k _. record_in l.bytes k) (replicate count_limit start_record))

abbrev pub decreases-loop-i : goal.decreases-loop-i
decreases-loop-i l = l.count - l.i

-- After some places the interval is that of their thresholds.
use mathlib.Core.Path.{◌≡◌}
use mathlib.Core.List.{List}
use Prim.Native.Nat.{ℕ, ◌≤◌}
use lib.ListN.{length, get_or}
use Rattle.walk.specs.Numbers.{only, choose}
use Rattle.walk.specs.Units.{million}
use Rattle.walk.specs.Strings.{Upper, Lower, is_on}
use Rattle.plan.specs.Places.{largest_to, smallest_to}
use Rattle.bucket_test.specs.Turn.{no_record}
use Rattle.bucket_test.specs.declared.Threshold.{Threshold}
use Rattle.bucket_test.proofs.answering.interval_of.Given as goal

abbrev pub above_at : List ℕ → List Threshold → ℕ → ℕ
above_at thresholds records k = only (is_on Upper (get_or records k no_record).mark) (get_or thresholds k 0)

abbrev pub at_most_at : List ℕ → List Threshold → ℕ → ℕ
at_most_at thresholds records k = choose (is_on Lower (get_or records k no_record).mark) (get_or thresholds k 0) million

abbrev pub invariant-loop-record : goal.invariant-loop-record
invariant-loop-record l =
    (l.v.low ≡ largest_to (length l.yielded) (above_at l.p.thresholds l.s.records) 0)
    × (l.v.high ≡ smallest_to (length l.yielded) (at_most_at l.p.thresholds l.s.records) million)
    × (l.v.high ≤ million)

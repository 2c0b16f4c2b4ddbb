-- The neighbours passed differ enough, and `before` is the last threshold passed.
use mathlib.Core.Path.{◌≡◌}
use mathlib.Core.Bool.{false}
use Prim.Native.Nat.{◌-◌}
use Rattle.plan.specs.Plan.{threshold_at, apart_from_next}
use Rattle.plan.proofs.PlaceLaws.{Sought}
use Rattle.plan.proofs.Plan.thresholds_apart.Given as goal

abbrev pub invariant-loop-t : goal.invariant-loop-t
invariant-loop-t l = record {
  before_is : l.before ≡ threshold_at l.self l.t-index;
  apart : Sought false (apart_from_next l.self) (l.self.count - 1) l.t-index;
}

-- The thresholds passed are in their range and rise, and `before` is the last of them.
use mathlib.Core.Path.{◌≡◌}
use mathlib.Core.Bool.{Bool, false, ◌&&◌}
use Prim.Native.Nat.{ℕ, zero, suc}
use Rattle.plan.specs.Places.{within}
use Rattle.plan.specs.Plan.{threshold_limit, threshold_at, above_before}
use Rattle.plan.specs.declared.Plan.{Plan}
use Rattle.plan.proofs.PlaceLaws.{Sought}
use Rattle.plan.proofs.Plan.thresholds_rise.Given as goal

abbrev pub fits : Plan → ℕ → Bool
fits p i = within 1 threshold_limit (threshold_at p i) && above_before p i

-- the threshold before place i, 0 before the first
abbrev pub before_at : Plan → ℕ → ℕ
before_at p zero = 0
before_at p (suc i) = threshold_at p i

abbrev pub invariant-loop-t : goal.invariant-loop-t
invariant-loop-t l = record {
  before_is : l.before ≡ before_at l.self l.t-index;
  rising : Sought false (fits l.self) l.self.count l.t-index;
}

-- The points passed fit, and `step` and `share` are those of the last of them.
use mathlib.Core.Path.{◌≡◌}
use mathlib.Core.Bool.{false}
use Prim.Native.Nat.{ℕ, zero, suc}
use lib.ListN.{length}
use Rattle.plan.specs.Plan.{step_at, share_at, point_fits}
use Rattle.plan.specs.declared.Plan.{Plan}
use Rattle.plan.proofs.PlaceLaws.{Sought}
use Rattle.plan.proofs.Plan.points_fit.Given as goal

-- the step and the share of the point before place j, 0 before the first
abbrev pub step_before : Plan → ℕ → ℕ
step_before p zero = 0
step_before p (suc j) = step_at p j

abbrev pub share_before : Plan → ℕ → ℕ
share_before p zero = 0
share_before p (suc j) = share_at p j

abbrev pub invariant-loop-next : goal.invariant-loop-next
invariant-loop-next l = record {
  step_is : l.step ≡ step_before l.self (length l.yielded);
  share-is : l.share ≡ share_before l.self (length l.yielded);
  fit : Sought false (point_fits l.self) l.self.points (length l.yielded);
}

-- The share is that of the points passed.
use mathlib.Core.Path.{◌≡◌}
use lib.ListN.{length}
use Rattle.plan.specs.Points.{share_by}
use Rattle.plan.specs.Plan.{step_at, share_at}
use Rattle.plan.proofs.Plan.share_by.Given as goal

abbrev pub invariant-loop-step : goal.invariant-loop-step
invariant-loop-step l = l.last ≡ share_by (step_at l.self) (share_at l.self) (length l.yielded) l.n

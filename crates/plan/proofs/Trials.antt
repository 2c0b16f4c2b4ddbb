-- The trials of thresholds too close and of points, in one statement (specs/Trials).
use mathlib.Core.Path.{refl}
use native.Mathlib.Omega.{arith}
use Rattle.walk.specs.Numbers.{le?}
use Rattle.walk.specs.Units.{million, allowance_limit, horizon_limit}
use Rattle.plan.specs.Places.{eq?, all_to, any_to}
use Rattle.walk.specs.Spending.{spending}
use Rattle.plan.specs.Points.{point_spending, share_by}
use Rattle.plan.specs.Plan.{counts_fit, spending_of, rule1, above_before, rule2, rule3, rule4, permitted, bucket_fits, rule5, covered_above, rule6, plan_refusal}
use Rattle.plan.specs.PlanF.{plan_f}
use Rattle.plan.specs.Trials.{computed, computed_of_points, printed, printed_of_points, plan_of_points, TrialsTheorem}
use Rattle.plan.proofs.AcceptedLaws.{too_close}

pub trials : TrialsTheorem
unfolding computed computed_of_points printed printed_of_points plan_f plan_of_points spending_of spending point_spending share_by le? million allowance_limit horizon_limit eq? all_to any_to counts_fit rule1 above_before rule2 rule3 rule4
    permitted bucket_fits rule5 covered_above rule6 plan_refusal
trials = (refl, refl, λ p e r. ((too_close p).0 r).1.1 (λ i l. absurd (omega arith)))

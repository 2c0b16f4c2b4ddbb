-- A plan as it comes in and as it goes out, field by field.
use Rattle.std.specs.Prelude.{ℕ}
use Rattle.plan.specs.declared.Plan.{Plan}
use Rattle.host.specs.declared.HostPlan.{HostPlan}

abbrev pub plan_in : HostPlan → Plan
plan_in p = record {
  count = p.count;
  buckets = p.buckets;
  delay = p.delay;
  horizon = p.horizon;
  points = p.points;
  thresholds = p.thresholds;
  allowances = p.allowances;
  left = p.left;
  right = p.right;
  steps = p.steps;
  shares = p.shares;
}

abbrev pub plan_out : ℕ → Plan → HostPlan
plan_out refusal p = record {
  refusal = refusal;
  count = p.count;
  buckets = p.buckets;
  delay = p.delay;
  horizon = p.horizon;
  points = p.points;
  thresholds = p.thresholds;
  allowances = p.allowances;
  left = p.left;
  right = p.right;
  steps = p.steps;
  shares = p.shares;
}

-- Plan F, the plan of the examples (rules 11).
use Rattle.std.specs.Prelude.{◌∷◌, replicate}
use Rattle.plan.specs.declared.Plan.{Plan}

unfoldable pub plan_f : Plan
plan_f = record {
  count = 1;
  buckets = 2;
  delay = 1000;
  horizon = 200;
  points = 0;
  thresholds = 50000 ∷ replicate 9 0;
  allowances = 4398046511 ∷ replicate 9 0;
  left = 0 ∷ 50000 ∷ replicate 14 0;
  right = 50000 ∷ 1000000 ∷ replicate 14 0;
  steps = replicate 8 0;
  shares = replicate 8 0;
}

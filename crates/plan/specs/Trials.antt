-- Thresholds too close (rules 11.3) and spending by points (rules 11.5): the refusals of plans, and what may be spent, as the definitions compute
-- them, beside what the rules print, a line each.
use Rattle.std.specs.Prelude.{List, [], ◌∷◌, ◌++◌, ◌≡◌, ℕ, ◌-◌, length, replicate}
use Rattle.plan.specs.Plan.{count_limit, point_limit, allowance_at, spending_of, plan_refusal}
use Rattle.plan.specs.PlanF.{plan_f}
use Rattle.plan.specs.declared.Plan.{Plan}

-- these thresholds with such an allowance each, and the buckets 0 to `end` and `end` to 1,000,000
abbrev plan_of : List ℕ → ℕ → ℕ → Plan
plan_of thresholds allowance end = record {
  count = length thresholds;
  buckets = 2;
  delay = 1000;
  horizon = 200;
  points = 0;
  thresholds = thresholds ++ replicate (count_limit - length thresholds) 0;
  allowances = replicate count_limit allowance;
  left = 0 ∷ end ∷ replicate 14 0;
  right = end ∷ 1000000 ∷ replicate 14 0;
  steps = replicate point_limit 0;
  shares = replicate point_limit 0;
}

-- the threshold 100,000 with such an allowance, such a delay and horizon, the buckets 0 to `end` and `end` to 1,000,000, and points with these
-- steps and shares
abbrev pub with_points : ℕ → ℕ → ℕ → ℕ → List ℕ → List ℕ → Plan
with_points allowance delay horizon end steps shares = record {
  count = 1;
  buckets = 2;
  delay = delay;
  horizon = horizon;
  points = length steps;
  thresholds = 100000 ∷ replicate 9 0;
  allowances = allowance ∷ replicate 9 0;
  left = 0 ∷ end ∷ replicate 14 0;
  right = end ∷ 1000000 ∷ replicate 14 0;
  steps = steps ++ replicate (point_limit - length steps) 0;
  shares = shares ++ replicate (point_limit - length shares) 0;
}

-- .. with the largest allowance, k 1000, N 10 and buckets up to and above the threshold
abbrev largest : ℕ
largest = 2199023255551

abbrev pub pointed_plan : List ℕ → List ℕ → Plan
pointed_plan = with_points largest 1000 10 100000

-- a tenth of the allowance from step 1 on, four tenths from step 2 on
unfoldable pub plan_of_points : Plan
plan_of_points = pointed_plan (1 ∷ 2 ∷ []) (100000 ∷ 400000 ∷ [])

-- nothing before step 4, and equal shares at steps 4 and 6
abbrev late_points : Plan
late_points = pointed_plan (4 ∷ 6 ∷ 10 ∷ []) (250000 ∷ 250000 ∷ 1000000 ∷ [])

-- the allowance of plan F, a thousandth of the whole
abbrev thousandth : ℕ
thousandth = allowance_at plan_f 0

unfoldable pub computed : List ℕ
computed =
    -- a difference of 99, of 100
    plan_refusal (plan_of (50000 ∷ 50099 ∷ []) thousandth 50000)
    ∷ plan_refusal (plan_of (50000 ∷ 50100 ∷ []) thousandth 50000)
    -- falling, and equal
    ∷ plan_refusal (plan_of (50000 ∷ 49000 ∷ []) thousandth 50000)
    ∷ plan_refusal (plan_of (50000 ∷ 50000 ∷ []) thousandth 50000)
    -- a close pair before one that falls, and before one out of range
    ∷ plan_refusal (plan_of (10000 ∷ 10050 ∷ 10040 ∷ []) thousandth 10000)
    ∷ plan_refusal (plan_of (10000 ∷ 10050 ∷ 1000000 ∷ []) thousandth 10000)
    -- with an allowance of 0, with one of one half, and with an end that is not permitted
    ∷ plan_refusal (plan_of (50000 ∷ 50099 ∷ []) 0 50000)
    ∷ plan_refusal (plan_of (50000 ∷ 50099 ∷ []) 2199023255552 50000)
    ∷ plan_refusal (plan_of (50000 ∷ 50099 ∷ []) thousandth 7)
    -- next to 0 and to 1,000,000
    ∷ plan_refusal (plan_of (1 ∷ 100 ∷ []) thousandth 1)
    ∷ plan_refusal (plan_of (1 ∷ 101 ∷ []) thousandth 1)
    ∷ plan_refusal (plan_of (999900 ∷ 999999 ∷ []) thousandth 999900)
    ∷ plan_refusal (plan_of (999899 ∷ 999999 ∷ []) thousandth 999899)
    ∷ plan_refusal (plan_of (0 ∷ 50 ∷ []) thousandth 50)
    -- as far apart as two can be
    ∷ plan_refusal (plan_of (1 ∷ 999999 ∷ []) thousandth 1)
    -- the last pair of three, with an allowance of 0
    ∷ plan_refusal (plan_of (10000 ∷ 20000 ∷ 20099 ∷ []) 0 10000)
    -- the last pair of ten
    ∷ plan_refusal (plan_of (1 ∷ 101 ∷ 201 ∷ 301 ∷ 401 ∷ 501 ∷ 601 ∷ 701 ∷ 801 ∷ 900 ∷ []) thousandth 1)
    ∷ plan_refusal (plan_of (1 ∷ 101 ∷ 201 ∷ 301 ∷ 401 ∷ 501 ∷ 601 ∷ 701 ∷ 801 ∷ 901 ∷ []) thousandth 1)
    -- one threshold
    ∷ plan_refusal (plan_of (1 ∷ []) thousandth 1)
    ∷ plan_refusal (plan_of (999999 ∷ []) thousandth 999999)
    ∷ []

unfoldable pub computed_of_points : List ℕ
computed_of_points =
    -- two points, none, eight, nine, of which the ninth has a place, so that only their number is at fault
    plan_refusal plan_of_points
    ∷ plan_refusal (pointed_plan [] [])
    ∷ plan_refusal (pointed_plan (1 ∷ 2 ∷ 3 ∷ 4 ∷ 5 ∷ 6 ∷ 7 ∷ 8 ∷ []) (1 ∷ 2 ∷ 3 ∷ 4 ∷ 5 ∷ 6 ∷ 7 ∷ 8 ∷ []))
    ∷ plan_refusal (pointed_plan (1 ∷ 2 ∷ 3 ∷ 4 ∷ 5 ∷ 6 ∷ 7 ∷ 8 ∷ 9 ∷ []) (1 ∷ 2 ∷ 3 ∷ 4 ∷ 5 ∷ 6 ∷ 7 ∷ 8 ∷ 9 ∷ []))
    -- a step of 0, of N, of N + 1
    ∷ plan_refusal (pointed_plan (0 ∷ []) (1 ∷ []))
    ∷ plan_refusal (pointed_plan (10 ∷ []) (1 ∷ []))
    ∷ plan_refusal (pointed_plan (11 ∷ []) (1 ∷ []))
    -- steps that are equal, that fall, and the last two of eight equal
    ∷ plan_refusal (pointed_plan (2 ∷ 2 ∷ []) (1 ∷ 2 ∷ []))
    ∷ plan_refusal (pointed_plan (2 ∷ 1 ∷ []) (1 ∷ 2 ∷ []))
    ∷ plan_refusal (pointed_plan (1 ∷ 2 ∷ 3 ∷ 4 ∷ 5 ∷ 6 ∷ 7 ∷ 7 ∷ []) (1 ∷ 2 ∷ 3 ∷ 4 ∷ 5 ∷ 6 ∷ 7 ∷ 8 ∷ []))
    -- shares that are equal, that fall; a share of 0, of 1,000,000, of one more
    ∷ plan_refusal (pointed_plan (1 ∷ 2 ∷ []) (5 ∷ 5 ∷ []))
    ∷ plan_refusal (pointed_plan (1 ∷ 2 ∷ []) (5 ∷ 4 ∷ []))
    ∷ plan_refusal (pointed_plan (1 ∷ []) (0 ∷ []))
    ∷ plan_refusal (pointed_plan (1 ∷ []) (1000000 ∷ []))
    ∷ plan_refusal (pointed_plan (1 ∷ []) (1000001 ∷ []))
    -- a step of 0 with an allowance of 0, with a delay of 0, with a horizon of 0, and with an end that is not permitted
    ∷ plan_refusal (with_points 0 1000 10 100000 (0 ∷ []) (1 ∷ []))
    ∷ plan_refusal (with_points largest 0 10 100000 (0 ∷ []) (1 ∷ []))
    ∷ plan_refusal (with_points largest 1000 0 100000 (0 ∷ []) (1 ∷ []))
    ∷ plan_refusal (with_points largest 1000 10 7 (0 ∷ []) (1 ∷ []))
    -- a sound point, with a delay of 0, and with an end that is not permitted
    ∷ plan_refusal (with_points largest 0 10 100000 (1 ∷ []) (1 ∷ []))
    ∷ plan_refusal (with_points largest 1000 10 7 (1 ∷ []) (1 ∷ []))
    -- E at the start, before a first point, at it, between points, at the last (of two points: bucket_test/specs/Trials)
    ∷ spending_of late_points 0 0 ∷ spending_of late_points 0 3 ∷ spending_of late_points 0 4 ∷ spending_of late_points 0 5
    ∷ spending_of late_points 0 6 ∷ spending_of late_points 0 9 ∷ spending_of late_points 0 10
    ∷ []

unfoldable pub printed : List ℕ
printed =
    14 ∷ 0
    ∷ 2 ∷ 2
    ∷ 2 ∷ 2
    ∷ 14 ∷ 14 ∷ 14
    ∷ 14 ∷ 0 ∷ 14 ∷ 0 ∷ 2
    ∷ 0
    ∷ 14
    ∷ 14 ∷ 0
    ∷ 0 ∷ 0
    ∷ []

unfoldable pub printed_of_points : List ℕ
printed_of_points =
    0 ∷ 0 ∷ 0 ∷ 16
    ∷ 16 ∷ 0 ∷ 16
    ∷ 16 ∷ 16 ∷ 16
    ∷ 0 ∷ 16 ∷ 0 ∷ 0 ∷ 16
    ∷ 3 ∷ 4 ∷ 4 ∷ 16
    ∷ 4 ∷ 5
    ∷ 0 ∷ 0 ∷ 549755813887 ∷ 549755813887 ∷ 549755813887 ∷ 549755813887 ∷ 2199023255551
    ∷ []

-- the joint statement; and a plan of one threshold, whatever stands in the places past it, is never refused by 14
abbrev pub TrialsTheorem : Type 0
TrialsTheorem = (computed ≡ printed) × (computed_of_points ≡ printed_of_points) × ((p : Plan) → p.count ≡ 1 → ¬ (plan_refusal p ≡ 14))

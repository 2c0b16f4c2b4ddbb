-- Which bucket is named (rules 11.4): as the definitions compute it, beside what the rules print, a line for each plan and interval. Places are
-- counted from 0; the number of buckets stands for none.
use Rattle.std.specs.Prelude.{List, [], ◌∷◌, ◌++◌, ◌≡◌, ℕ, ◌-◌, length, replicate}
use Rattle.plan.specs.Plan.{count_limit, bucket_limit, point_limit}
use Rattle.bucket_choice.specs.Choice.{chosen_bucket, first_bucket}
use Rattle.plan.specs.declared.Plan.{Plan}

-- a plan with these thresholds, such an allowance each and such a horizon, and so many of the buckets with these ends
abbrev pub plan_with : List ℕ → ℕ → ℕ → ℕ → List ℕ → List ℕ → Plan
plan_with thresholds allowance horizon buckets left right = record {
  count = length thresholds;
  buckets = buckets;
  delay = 1000;
  horizon = horizon;
  points = 0;
  thresholds = thresholds ++ replicate (count_limit - length thresholds) 0;
  allowances = replicate (length thresholds) allowance ++ replicate (count_limit - length thresholds) 0;
  left = left ++ replicate (bucket_limit - length left) 0;
  right = right ++ replicate (bucket_limit - length right) 0;
  steps = replicate point_limit 0;
  shares = replicate point_limit 0;
}

-- the star buckets
abbrev pub star_plan : Plan
star_plan =
    plan_with (500 ∷ 1000 ∷ 2000 ∷ 8000 ∷ 10000 ∷ 12000 ∷ 45000 ∷ 50000 ∷ 55000 ∷ []) 488671834 50000 7
    (0 ∷ 1000 ∷ 10000 ∷ 50000 ∷ 500 ∷ 8000 ∷ 45000 ∷ []) (1000 ∷ 10000 ∷ 50000 ∷ 1000000 ∷ 2000 ∷ 12000 ∷ 55000 ∷ [])

-- so many of the buckets with these ends; such a plan need not be accepted
abbrev buckets_from : ℕ → List ℕ → List ℕ → Plan
buckets_from = plan_with (10000 ∷ 20000 ∷ 30000 ∷ 40000 ∷ 50000 ∷ []) 4398046511 200

-- the choice, and the one before it
abbrev places : Plan → ℕ → ℕ → List ℕ
places p low high = chosen_bucket p low high ∷ first_bucket p low high ∷ []

unfoldable pub computed : List (List ℕ)
computed =
    -- two of the star buckets contain the interval, and the later is the narrower: 1,500 for 9,000 wide, and so on
    places star_plan 1000 2000
    ∷ places star_plan 8000 10000
    ∷ places star_plan 10000 12000
    ∷ places star_plan 45000 50000
    ∷ places star_plan 50000 55000
    -- .. and the earlier is
    ∷ places star_plan 500 1000
    -- one contains it
    ∷ places star_plan 0 500
    ∷ places star_plan 500 2000
    ∷ places star_plan 2000 8000
    ∷ places star_plan 55000 1000000
    -- none does
    ∷ places star_plan 0 1000000
    ∷ places star_plan 500 8000
    -- equally wide, in either order; behind a wider one; before a wider one; the same bucket twice
    ∷ places (buckets_from 2 (0 ∷ 10000 ∷ []) (30000 ∷ 40000 ∷ [])) 10000 30000
    ∷ places (buckets_from 2 (10000 ∷ 0 ∷ []) (40000 ∷ 30000 ∷ [])) 10000 30000
    ∷ places (buckets_from 3 (0 ∷ 10000 ∷ 0 ∷ []) (50000 ∷ 40000 ∷ 30000 ∷ [])) 10000 30000
    ∷ places (buckets_from 3 (0 ∷ 10000 ∷ 0 ∷ []) (30000 ∷ 40000 ∷ 50000 ∷ [])) 10000 30000
    ∷ places (buckets_from 3 (0 ∷ 10000 ∷ 10000 ∷ []) (50000 ∷ 30000 ∷ 30000 ∷ [])) 10000 20000
    -- 1,500 and 1,000 wide
    ∷ places (buckets_from 2 (500 ∷ 1000 ∷ []) (2000 ∷ 2000 ∷ [])) 1000 2000
    -- the narrower has the smaller left end; has the larger right end
    ∷ places (buckets_from 2 (10000 ∷ 0 ∷ []) (1000000 ∷ 50000 ∷ [])) 10000 50000
    ∷ places (buckets_from 2 (0 ∷ 20000 ∷ []) (40000 ∷ 50000 ∷ [])) 20000 40000
    -- a narrower one that does not contain it; a narrower one past the count
    ∷ places (buckets_from 3 (0 ∷ 20000 ∷ 0 ∷ []) (50000 ∷ 30000 ∷ 40000 ∷ [])) 10000 40000
    ∷ places (buckets_from 2 (0 ∷ 0 ∷ 10000 ∷ []) (50000 ∷ 40000 ∷ 20000 ∷ [])) 10000 20000
    ∷ []

unfoldable pub printed : List (List ℕ)
printed =
    (4 ∷ 1 ∷ [])
    ∷ (5 ∷ 1 ∷ [])
    ∷ (5 ∷ 2 ∷ [])
    ∷ (6 ∷ 2 ∷ [])
    ∷ (6 ∷ 3 ∷ [])
    ∷ (0 ∷ 0 ∷ [])
    ∷ (0 ∷ 0 ∷ [])
    ∷ (4 ∷ 4 ∷ [])
    ∷ (1 ∷ 1 ∷ [])
    ∷ (3 ∷ 3 ∷ [])
    ∷ (7 ∷ 7 ∷ [])
    ∷ (7 ∷ 7 ∷ [])
    ∷ (0 ∷ 0 ∷ [])
    ∷ (0 ∷ 0 ∷ [])
    ∷ (1 ∷ 0 ∷ [])
    ∷ (0 ∷ 0 ∷ [])
    ∷ (1 ∷ 0 ∷ [])
    ∷ (1 ∷ 0 ∷ [])
    ∷ (1 ∷ 0 ∷ [])
    ∷ (1 ∷ 0 ∷ [])
    ∷ (2 ∷ 0 ∷ [])
    ∷ (1 ∷ 0 ∷ [])
    ∷ []

-- the joint statement
abbrev pub TrialsTheorem : Type 0
TrialsTheorem = computed ≡ printed

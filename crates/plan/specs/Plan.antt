-- The plan and its rules (rules 1).
use Rattle.std.specs.Prelude.{Bool, true, not, ◌&&◌, ◌||◌, [], ◌∷◌, ◌⊎◌, ◌↔◌, ◌≡◌, ℕ, zero, suc, ◌+◌, ◌*◌, ◌-◌, ◌/◌, ◌≤◌, ◌<◌, get_or}
use Rattle.walk.specs.Numbers.{le?, lt?, choose}
use Rattle.walk.specs.Units.{million, allowance_limit, horizon_limit}
use Rattle.walk.specs.Spending.{spending, IsSpending}
use Rattle.plan.specs.Places.{eq?, within, all_to, any_to}
use Rattle.refusals.specs.Refusals.{unless, first_refusal}
use Rattle.plan.specs.Points.{point_spending, share_by, LastPoint}
use Rattle.plan.specs.declared.Plan.{Plan}

-- the most thresholds, buckets and points, the largest threshold and the least difference of neighbouring ones, in millionths, and the largest
-- delay (rules 1.4; the largest allowance and horizon are in walk/specs/Units, and the largest share is a million)
abbrev pub count_limit : ℕ
count_limit = 10

abbrev pub bucket_limit : ℕ
bucket_limit = 16

abbrev pub point_limit : ℕ
point_limit = 8

abbrev pub threshold_limit : ℕ
threshold_limit = 999999

abbrev pub least_difference : ℕ
least_difference = 100

abbrev pub delay_limit : ℕ
delay_limit = 65535

-- K and B in their ranges; a stored form's counts are judged before there is a plan
unfoldable pub counts_fit : ℕ → ℕ → Bool
counts_fit count buckets = within 1 count_limit count && within 2 bucket_limit buckets

module _ (p : Plan) where
  -- the threshold and the allowance at place i, the ends of the bucket and the step and the share of the point at place j; places are counted
  -- from 0
  abbrev pub threshold_at : ℕ → ℕ
  threshold_at i = get_or p.thresholds i 0

  abbrev pub allowance_at : ℕ → ℕ
  allowance_at i = get_or p.allowances i 0

  abbrev pub left_at : ℕ → ℕ
  left_at j = get_or p.left j 0

  abbrev pub right_at : ℕ → ℕ
  right_at j = get_or p.right j 0

  abbrev pub step_at : ℕ → ℕ
  step_at j = get_or p.steps j 0

  abbrev pub share_at : ℕ → ℕ
  share_at j = get_or p.shares j 0

  -- E(n) of the threshold at place i (rules 3.1): by the points where there are any, else by the delay
  unfoldable pub spending_of : ℕ → ℕ → ℕ
  spending_of i n =
      choose (eq? p.points 0) (spending (allowance_at i) p.delay n)
      (point_spending (allowance_at i) (share_by step_at share_at p.points n))

  -- ---- the rules as tests, each over all entries

  -- 1: K and B in their ranges
  unfoldable pub rule1 : Bool
  rule1 = counts_fit p.count p.buckets

  -- 2: each threshold in its range and above the one before
  unfoldable pub above_before : ℕ → Bool
  above_before zero = true
  above_before (suc i) = lt? (threshold_at i) (threshold_at (suc i))

  unfoldable pub rule2 : Bool
  rule2 = all_to p.count (λ i. within 1 threshold_limit (threshold_at i) && above_before i)

  -- 14: every two neighbouring thresholds differ by at least 100 millionths; after 2, which makes the next the larger one
  abbrev pub apart_from_next : ℕ → Bool
  apart_from_next i = le? (threshold_at i + least_difference) (threshold_at (suc i))

  abbrev pub rule14 : Bool
  rule14 = all_to (p.count - 1) apart_from_next

  -- 3: each allowance in its range
  unfoldable pub rule3 : Bool
  rule3 = all_to p.count (λ i. within 1 allowance_limit (allowance_at i))

  -- 4: k and N in their ranges
  unfoldable pub rule4 : Bool
  rule4 = within 1 delay_limit p.delay && within 1 horizon_limit p.horizon

  -- 16: at most 8 points; their steps strictly rising within 1 to N, their shares never falling and at most 1,000,000
  abbrev pub after_before : ℕ → Bool
  after_before zero = true
  after_before (suc j) = lt? (step_at j) (step_at (suc j)) && le? (share_at j) (share_at (suc j))

  abbrev pub point_fits : ℕ → Bool
  point_fits j = within 1 p.horizon (step_at j) && (le? (share_at j) million && after_before j)

  abbrev pub rule16 : Bool
  rule16 = le? p.points point_limit && all_to p.points point_fits

  -- 5: in each bucket left < right, not both ends 0 and 1,000,000, and both ends permitted
  unfoldable pub permitted : ℕ → Bool
  permitted e = eq? e 0 || (eq? e million || any_to p.count (λ i. eq? e (threshold_at i)))

  unfoldable pub bucket_fits : ℕ → Bool
  bucket_fits j =
      lt? (left_at j) (right_at j)
      && (not (eq? (left_at j) 0 && eq? (right_at j) million)
      && (permitted (left_at j) && permitted (right_at j)))

  unfoldable pub rule5 : Bool
  rule5 = all_to p.buckets bucket_fits

  -- 6: every p from 0 to 1 lies in some bucket. As a test: some bucket begins at 0, and what lies just above each right end
  -- below 1,000,000 is covered. proofs/Cover shows that the test passes exactly when every fraction lies in some bucket (`Covered`, below).
  unfoldable pub covered_above : ℕ → Bool
  covered_above e = le? million e || any_to p.buckets (λ i. le? (left_at i) e && lt? e (right_at i))

  unfoldable pub rule6 : Bool
  rule6 = any_to p.buckets (λ j. eq? (left_at j) 0) && all_to p.buckets (λ j. covered_above (right_at j))

  -- ---- the refusal of a plan, 0 for an accepted one: 1, 2, 14, 3, 4, 16, 5, 6, each number over all entries before the next

  unfoldable pub plan_refusal : ℕ
  plan_refusal =
      first_refusal
      (unless rule1 1 ∷ unless rule2 2 ∷ unless rule14 14 ∷ unless rule3 3 ∷ unless rule4 4 ∷ unless rule16 16 ∷ unless rule5 5 ∷ unless rule6 6 ∷ [])

  -- ---- the rules in words. proofs/AcceptedLaws shows that a plan has no refusal exactly when it keeps them.

  -- every two neighbouring thresholds differ by at least 100 millionths, the next being the larger one
  abbrev pub Apart : Type 0
  Apart = (i : ℕ) → suc i < p.count → threshold_at i + least_difference ≤ threshold_at (suc i)

  -- the points are sound: there are at most 8, each step is within 1 to N and before the next, each share at most 1,000,000 and the next one's
  pub record PointsSound : Type 0 where
    pub few : p.points ≤ point_limit
    pub step_range : (j : ℕ) → j < p.points → (1 ≤ step_at j) × (step_at j ≤ p.horizon)
    pub steps_rise : (j : ℕ) → suc j < p.points → step_at j < step_at (suc j)
    pub share_range : (j : ℕ) → j < p.points → share_at j ≤ million
    pub shares_keep : (j : ℕ) → suc j < p.points → share_at j ≤ share_at (suc j)

  abbrev pub Permitted : ℕ → Type 0
  Permitted e = (e ≡ 0) ⊎ ((e ≡ million) ⊎ ((i : ℕ) × (i < p.count) × (e ≡ threshold_at i)))

  -- the bucket at place j holds the fraction x / y: above its left end, or at it where that is 0, and up to its right end
  abbrev pub Holds : ℕ → ℕ → ℕ → Type 0
  Holds x y j = ((left_at j * y < x * million) ⊎ (left_at j ≡ 0)) × (x * million ≤ right_at j * y)

  -- every fraction x / y from 0 to 1 lies in some bucket; since ends are fractions, so does every p between them
  unfoldable pub Covered : Type 0
  Covered = (x y : ℕ) → 0 < y → x ≤ y → (j : ℕ) × (j < p.buckets) × Holds x y j

  -- an accepted plan keeps them all
  pub record Accepted : Type 0 where
    pub count_range : (1 ≤ p.count) × (p.count ≤ count_limit)
    pub buckets_range : (2 ≤ p.buckets) × (p.buckets ≤ bucket_limit)
    pub threshold_range : (i : ℕ) → i < p.count → (1 ≤ threshold_at i) × (threshold_at i ≤ threshold_limit)
    pub thresholds_rise : (i : ℕ) → suc i < p.count → threshold_at i < threshold_at (suc i)
    pub thresholds_apart : Apart
    pub allowance_range : (i : ℕ) → i < p.count → (1 ≤ allowance_at i) × (allowance_at i ≤ allowance_limit)
    pub delay_range : (1 ≤ p.delay) × (p.delay ≤ delay_limit)
    pub horizon_range : (1 ≤ p.horizon) × (p.horizon ≤ horizon_limit)
    pub points_sound : PointsSound
    pub ends_order : (j : ℕ) → j < p.buckets → left_at j < right_at j
    pub not_whole : (j : ℕ) → j < p.buckets → ¬ ((left_at j ≡ 0) × (right_at j ≡ million))
    pub ends_permitted : (j : ℕ) → j < p.buckets → Permitted (left_at j) × Permitted (right_at j)
    pub covered : Covered

-- E(n) in words: without points the formula; with points by the share of the last point at or before n, and 0 before the first
pub record Spends (p : Plan) (i n : ℕ) : Type 0 where
  pub by_delay : p.points ≡ 0 → spending_of p i n ≡ allowance_at p i * n / (n + p.delay)
  pub by_point : (j : ℕ) → LastPoint (step_at p) p.points n j → spending_of p i n ≡ allowance_at p i * share_at p j / million
  pub before_points : 1 ≤ p.points → ((j : ℕ) → j < p.points → n < step_at p j) → spending_of p i n ≡ 0

-- of every plan, every threshold and every n; and under an accepted plan it is 0 at n = 0, never falls and stays below one half
abbrev pub SpendingTheorem : Type 0
SpendingTheorem =
    ((p : Plan) (i n : ℕ) → Spends p i n)
    × ((p : Plan) → Accepted p → (i : ℕ) → i < p.count → (spending_of p i 0 ≡ 0) × IsSpending (spending_of p i))

-- rule 6 as a test says what it says in words ..
abbrev pub CoveredTheorem : Type 0
CoveredTheorem = (p : Plan) → (rule6 p ≡ true) ↔ Covered p

-- .. and a plan has no refusal exactly when it is accepted
abbrev pub AcceptedTheorem : Type 0
AcceptedTheorem = (p : Plan) → (plan_refusal p ≡ 0) ↔ Accepted p

-- a plan is refused by 14 exactly when it keeps rules 1 and 2 and two neighbouring thresholds differ by less than 100 millionths, whatever other
-- rules it breaks
abbrev pub TooCloseTheorem : Type 0
TooCloseTheorem = (p : Plan) → (plan_refusal p ≡ 14) ↔ ((rule1 p ≡ true) × ((rule2 p ≡ true) × (¬ Apart p)))

-- a plan is refused by 16 exactly when it keeps rules 1, 2, 14, 3 and 4 and its points are not sound, whatever rules on buckets it breaks
abbrev pub BadPointTheorem : Type 0
BadPointTheorem =
    (p : Plan) → (plan_refusal p ≡ 16)
    ↔ ((rule1 p ≡ true) × ((rule2 p ≡ true) × ((rule14 p ≡ true) × ((rule3 p ≡ true) × ((rule4 p ≡ true) × (¬ PointsSound p))))))

-- an accepted plan has at most ten thresholds, and not only neighbours: any two of them lie at least 100 millionths apart
abbrev pub ApartTheorem : Type 0
ApartTheorem =
    (p : Plan) → Accepted p
    → (p.count ≤ count_limit) × ((i j : ℕ) → i < j → j < p.count → threshold_at p i + least_difference ≤ threshold_at p j)

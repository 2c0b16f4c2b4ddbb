-- Places past a count are ignored in the rules (specs/SameCounted).
use mathlib.Core.Path.{◌≡◌, refl, sym, subst, ap}
use mathlib.Core.Bool.{Bool, ◌&&◌, ◌||◌}
use mathlib.Core.List.{List}
use Prim.Native.Nat.{ℕ, zero, suc, ◌-◌, ◌<◌}
use native.Mathlib.Omega.{arith}
use lib.ListN.{get_or}
use Rattle.walk.specs.Numbers.{le?}
use Rattle.walk.specs.Units.{million}
use Rattle.plan.specs.Places.{eq?}
use Rattle.plan.specs.Plan.{point_limit, threshold_at, allowance_at, left_at, right_at, step_at, share_at, spending_of, rule1, above_before, rule2, rule14, rule3, rule4, after_before, rule16, permitted, bucket_fits, rule5, covered_above, rule6, plan_refusal}
use Rattle.plan.specs.SameCounted.{SameCounted, SameRules, SameRulesTheorem}
use Rattle.plan.specs.declared.Plan.{Plan}
use Rattle.plan.proofs.PlaceLaws.{all_cong, any_cong}
use Rattle.plan.proofs.PointLaws.{share_cong}

and_cong : {a b x y : Bool} → a ≡ b → x ≡ y → (a && x) ≡ (b && y)
and_cong e f = λ i. e i && f i

-- the plan p with other places
abbrev pub with_places : Plan → List ℕ → List ℕ → List ℕ → List ℕ → List ℕ → List ℕ → Plan
with_places p thresholds allowances left right steps shares = record {
  count = p.count;
  buckets = p.buckets;
  delay = p.delay;
  horizon = p.horizon;
  points = p.points;
  thresholds = thresholds;
  allowances = allowances;
  left = left;
  right = right;
  steps = steps;
  shares = shares;
}

-- .. which are the same where p counts
module _ (p : Plan) (thresholds allowances left right steps shares : List ℕ)
    (entries : (i : ℕ) → i < p.count → (get_or thresholds i 0 ≡ threshold_at p i) × (get_or allowances i 0 ≡ allowance_at p i))
    (ends : (j : ℕ) → j < p.buckets → (get_or left j 0 ≡ left_at p j) × (get_or right j 0 ≡ right_at p j))
    (points : (j : ℕ) → j < p.points → (get_or steps j 0 ≡ step_at p j) × (get_or shares j 0 ≡ share_at p j)) where
  abbrev q : Plan
  q = with_places p thresholds allowances left right steps shares

  spending_same : (i : ℕ) → i < p.count → (n : ℕ) → spending_of q i n ≡ spending_of p i n
  unfolding spending_of
  spending_same i l n = rw ((entries i l).1, share_cong (step_at q) (step_at p) (share_at q) (share_at p) p.points n points)

  -- ---- the rules

  before_same : (i : ℕ) → i < p.count → above_before q i ≡ above_before p i
  unfolding above_before
  before_same zero l = refl
  before_same (suc i) l = rw ((entries i (omega arith)).0, (entries (suc i) l).0)

  rule2_same : rule2 q ≡ rule2 p
  unfolding rule2
  rule2_same = all_cong p.count _ _ (λ i l. rw ((entries i l).0, before_same i l))

  rule14_same : rule14 q ≡ rule14 p
  rule14_same = all_cong (p.count - 1) _ _ (λ i l. rw ((entries i (omega arith)).0, (entries (suc i) (omega arith)).0))

  rule3_same : rule3 q ≡ rule3 p
  unfolding rule3
  rule3_same = all_cong p.count _ _ (λ i l. rw (entries i l).1)

  after_same : (j : ℕ) → j < p.points → after_before q j ≡ after_before p j
  after_same zero l = refl
  after_same (suc j) l = rw ((points j (omega arith)).0, (points j (omega arith)).1, (points (suc j) l).0, (points (suc j) l).1)

  rule16_same : rule16 q ≡ rule16 p
  rule16_same =
      ap (λ (b : Bool). le? p.points point_limit && b)
      (all_cong p.points _ _ (λ j l. rw ((points j l).0, (points j l).1, after_same j l)))

  permitted_same : (e : ℕ) → permitted q e ≡ permitted p e
  unfolding permitted
  permitted_same e = ap (λ (b : Bool). eq? e 0 || (eq? e million || b)) (any_cong p.count _ _ (λ i l. rw (entries i l).0))

  rule5_same : rule5 q ≡ rule5 p
  unfolding rule5 bucket_fits
  rule5_same = all_cong p.buckets _ _ (λ j l. rw ((ends j l).0, (ends j l).1, permitted_same (left_at p j), permitted_same (right_at p j)))

  above_same : (e : ℕ) → covered_above q e ≡ covered_above p e
  unfolding covered_above
  above_same e = ap (λ (b : Bool). le? million e || b) (any_cong p.buckets _ _ (λ j l. rw ((ends j l).0, (ends j l).1)))

  rule6_same : rule6 q ≡ rule6 p
  unfolding rule6
  rule6_same =
      and_cong (any_cong p.buckets _ _ (λ j l. rw (ends j l).0))
      (all_cong p.buckets _ _ (λ j l. rw ((ends j l).1, above_same (right_at p j))))

  refusal_same : plan_refusal q ≡ plan_refusal p
  unfolding plan_refusal rule1 rule4
  refusal_same = rw (rule2_same, rule14_same, rule3_same, rule16_same, rule5_same, rule6_same)

  places_same : SameRules p q
  places_same = record { refusal_same = refusal_same; spending_same = spending_same }

-- what holds with p's own numbers holds of each plan that is p where p counts
pub by_places : (P : Plan → Type 0) (p q : Plan) → SameCounted p q → P (with_places p q.thresholds q.allowances q.left q.right q.steps q.shares) → P q
by_places P p q c =
    subst P
    (λ i. record {
      count = sym c.counts.0 i;
      buckets = sym c.counts.1 i;
      delay = sym c.times.0 i;
      horizon = sym c.times.1 i;
      points = sym c.counts.2 i;
      thresholds = q.thresholds;
      allowances = q.allowances;
      left = q.left;
      right = q.right;
      steps = q.steps;
      shares = q.shares;
    })

pub same_rules : SameRulesTheorem
same_rules p q c =
    by_places (SameRules p) p q c
    (places_same p q.thresholds q.allowances q.left q.right q.steps q.shares c.entries c.ends c.points)

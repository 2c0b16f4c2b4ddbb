-- A plan has no refusal exactly when it keeps the rules in words (rules 1.4), and what an accepted plan gives.
use mathlib.Core.Path.{◌≡◌, refl}
use mathlib.Core.Bool.{Bool, true, false}
use mathlib.Core.List.{List, [], ◌∷◌}
use mathlib.Core.Logic.{◌↔◌, inl, inr, ⊎_elim}
use Prim.Native.Nat.{ℕ, zero, suc, ◌+◌, ◌-◌, ◌≤◌, ◌<◌}
use native.Mathlib.Nat.{eq-or-lt_of_le}
use native.Mathlib.Omega.{arith}
use Rattle.walk.specs.Numbers.{choose}
use Rattle.walk.specs.Units.{million, allowance_limit, horizon_limit}
use Rattle.walk.specs.Spending.{IsSpending}
use Rattle.walk.proofs.SpendingLaws.{spending_is}
use Rattle.plan.specs.Places.{eq?}
use Rattle.refusals.specs.Refusals.{unless, first_refusal}
use Rattle.plan.specs.Plan.{count_limit, bucket_limit, point_limit, threshold_limit, least_difference, delay_limit, counts_fit, threshold_at, allowance_at, left_at, right_at, step_at, share_at, spending_of, rule1, above_before, rule2, rule14, rule3, rule4, after_before, point_fits, rule16, permitted, bucket_fits, rule5, rule6, plan_refusal, Apart, PointsSound, Permitted, Covered, Accepted, AcceptedTheorem, TooCloseTheorem, BadPointTheorem, ApartTheorem}
use Rattle.plan.specs.declared.Plan.{Plan}
use Rattle.plan.proofs.PlaceLaws.{both, either, neither, le_reads, eq_reads, within_reads, all_say, any_say, none_says, number_absent, number_here, number_later}
use Rattle.plan.proofs.PointLaws.{share_most, share_rises, point_spending_is}
use Rattle.plan.proofs.Cover.{covers}

-- ---- each rule in words

-- rule 1 is of the counts alone
abbrev pub Counted : ℕ → ℕ → Type 0
Counted count buckets = ((1 ≤ count) × (count ≤ count_limit)) × ((2 ≤ buckets) × (buckets ≤ bucket_limit))

pub counts_say : (count buckets : ℕ) → (counts_fit count buckets ≡ true) ↔ Counted count buckets
unfolding counts_fit
counts_say count buckets = both (within_reads 1 count_limit count) (within_reads 2 bucket_limit buckets)

module _ (p : Plan) where
  pub rule1_says : (rule1 p ≡ true) ↔ Counted p.count p.buckets
  unfolding rule1
  rule1_says = counts_say p.count p.buckets

  abbrev Above : ℕ → Type 0
  Above zero = Unit
  Above (suc i) = threshold_at p i < threshold_at p (suc i)

  above_says : (i : ℕ) → (above_before p i ≡ true) ↔ Above i
  unfolding above_before
  above_says zero = (λ e. tt, λ h. refl)
  above_says (suc i) = le_reads (suc (threshold_at p i)) (threshold_at p (suc i))

  abbrev pub Rising : Type 0
  Rising = (i : ℕ) → i < p.count → ((1 ≤ threshold_at p i) × (threshold_at p i ≤ threshold_limit)) × Above i

  pub rule2_says : (rule2 p ≡ true) ↔ Rising
  unfolding rule2
  rule2_says = all_say _ (λ i. both (within_reads 1 threshold_limit (threshold_at p i)) (above_says i)) p.count

  pub rule14_says : (rule14 p ≡ true) ↔ Apart p
  rule14_says =
      let pairs = all_say _ (λ i. le_reads _ (threshold_at p (suc i))) (p.count - 1) in
      (λ e i l. pairs.0 e i (omega arith), λ a. pairs.1 (λ i l. a i (omega arith)))

  abbrev pub Allowed : Type 0
  Allowed = (i : ℕ) → i < p.count → (1 ≤ allowance_at p i) × (allowance_at p i ≤ allowance_limit)

  pub rule3_says : (rule3 p ≡ true) ↔ Allowed
  unfolding rule3
  rule3_says = all_say _ (λ i. within_reads 1 allowance_limit (allowance_at p i)) p.count

  abbrev pub Timed : Type 0
  Timed = ((1 ≤ p.delay) × (p.delay ≤ delay_limit)) × ((1 ≤ p.horizon) × (p.horizon ≤ horizon_limit))

  pub rule4_says : (rule4 p ≡ true) ↔ Timed
  unfolding rule4
  rule4_says = both (within_reads 1 delay_limit p.delay) (within_reads 1 horizon_limit p.horizon)

  -- the point before place j, if there is one, has an earlier step and no larger share
  abbrev pub After : ℕ → Type 0
  After zero = Unit
  After (suc j) = (step_at p j < step_at p (suc j)) × (share_at p j ≤ share_at p (suc j))

  after_says : (j : ℕ) → (after_before p j ≡ true) ↔ After j
  after_says zero = (λ e. tt, λ h. refl)
  after_says (suc j) = both (le_reads (suc (step_at p j)) (step_at p (suc j))) (le_reads (share_at p j) (share_at p (suc j)))

  abbrev pub PointFits : ℕ → Type 0
  PointFits j = ((1 ≤ step_at p j) × (step_at p j ≤ p.horizon)) × ((share_at p j ≤ million) × After j)

  pub point_says : (j : ℕ) → (point_fits p j ≡ true) ↔ PointFits j
  point_says j = both (within_reads 1 p.horizon (step_at p j)) (both (le_reads (share_at p j) million) (after_says j))

  abbrev Pointed : Type 0
  Pointed = (p.points ≤ point_limit) × ((j : ℕ) → j < p.points → PointFits j)

  pointed : Pointed ↔ PointsSound p
  pointed = (
    λ h. record {
      few = h.0;
      step_range = λ j l. (h.1 j l).0;
      steps_rise = λ j l. (h.1 (suc j) l).1.1.0;
      share_range = λ j l. (h.1 j l).1.0;
      shares_keep = λ j l. (h.1 (suc j) l).1.1.1;
    },
    λ s. (s.few, λ j l. (s.step_range j l, (s.share_range j l, after s j l))),
  )
    where
      after : PointsSound p → (j : ℕ) → j < p.points → After j
      after s zero l = tt
      after s (suc j) l = (s.steps_rise j l, s.shares_keep j l)

  pub rule16_says : (rule16 p ≡ true) ↔ PointsSound p
  rule16_says =
      let tests = both (le_reads p.points point_limit) (all_say _ point_says p.points) in
      (λ e. pointed.0 (tests.0 e), λ s. tests.1 (pointed.1 s))

  pub permitted_says : (e : ℕ) → (permitted p e ≡ true) ↔ Permitted p e
  unfolding permitted
  permitted_says e = either (eq_reads e 0) (either (eq_reads e million) (any_say _ (λ i. eq_reads e (threshold_at p i)) p.count))

  abbrev pub Fitting : Type 0
  Fitting =
      (j : ℕ) → j < p.buckets
      → (left_at p j < right_at p j)
      × ((¬ ((left_at p j ≡ 0) × (right_at p j ≡ million)))
      × (Permitted p (left_at p j) × Permitted p (right_at p j)))

  pub rule5_says : (rule5 p ≡ true) ↔ Fitting
  unfolding rule5 bucket_fits
  rule5_says =
      all_say _
      (λ j.
      both (le_reads (suc (left_at p j)) (right_at p j))
      (both (neither _ (both (eq_reads (left_at p j) 0) (eq_reads (right_at p j) million)))
      (both (permitted_says (left_at p j)) (permitted_says (right_at p j)))))
      p.buckets

  -- ---- the refusal: what is left to judge, from each rule on

  abbrev pub from6 : List ℕ
  from6 = unless (rule6 p) 6 ∷ []

  abbrev pub from5 : List ℕ
  from5 = unless (rule5 p) 5 ∷ from6

  abbrev pub from16 : List ℕ
  from16 = unless (rule16 p) 16 ∷ from5

  abbrev pub from4 : List ℕ
  from4 = unless (rule4 p) 4 ∷ from16

  abbrev pub from3 : List ℕ
  from3 = unless (rule3 p) 3 ∷ from4

  abbrev pub from14 : List ℕ
  from14 = unless (rule14 p) 14 ∷ from3

  abbrev pub from2 : List ℕ
  from2 = unless (rule2 p) 2 ∷ from14

  abbrev Kept : Type 0
  Kept = Counted p.count p.buckets × (Rising × (Apart p × (Allowed × (Timed × (PointsSound p × (Fitting × (Covered p × (first_refusal [] ≡ 0))))))))

  kept : (plan_refusal p ≡ 0) ↔ Kept
  unfolding plan_refusal
  kept =
      none_says (rule1 p) 0 from2 rule1_says
      (none_says (rule2 p) 1 from14 rule2_says
      (none_says (rule14 p) 13 from3 rule14_says
      (none_says (rule3 p) 2 from4 rule3_says
      (none_says (rule4 p) 3 from16 rule4_says
      (none_says (rule16 p) 15 from5 rule16_says
      (none_says (rule5 p) 4 from6 rule5_says
      (none_says (rule6 p) 5 [] (covers p) (λ e. e, λ e. e))))))))

  gives : Kept → Accepted p
  gives (counts, (rising, (apart, (allowed, (times, (points, (fits, (covered, none)))))))) = record {
    count_range = counts.0;
    buckets_range = counts.1;
    threshold_range = λ i l. (rising i l).0;
    thresholds_rise = λ i l. (rising (suc i) l).1;
    thresholds_apart = apart;
    allowance_range = allowed;
    delay_range = times.0;
    horizon_range = times.1;
    points_sound = points;
    ends_order = λ j l. (fits j l).0;
    not_whole = λ j l. (fits j l).1.0;
    ends_permitted = λ j l. (fits j l).1.1;
    covered = covered;
  }

  keeps : Accepted p → Kept
  keeps a =
      let rising : Rising = λ i l. (a.threshold_range i l, above i l) in
      let fits : Fitting = λ j l. (a.ends_order j l, (a.not_whole j l, a.ends_permitted j l)) in
      ((a.count_range, a.buckets_range), (rising, (a.thresholds_apart, (a.allowance_range, ((a.delay_range, a.horizon_range), (a.points_sound, (fits, (a.covered, refl))))))))
    where
      above : (i : ℕ) → i < p.count → Above i
      above zero l = tt
      above (suc i) l = a.thresholds_rise i l

pub accepted : AcceptedTheorem
accepted p = (λ e. gives p ((kept p).0 e), λ a. (kept p).1 (keeps p a))

pub too_close : TooCloseTheorem
unfolding plan_refusal
too_close p =
    number_later (rule1 p) 0 14 (from2 p) (λ e. absurd (omega arith))
    (number_later (rule2 p) 1 14 (from14 p) (λ e. absurd (omega arith))
    (number_here (rule14 p) 13 (from3 p) (rule14_says p)
    (number_absent (rule3 p) 2 14 (from4 p) (λ e. absurd (omega arith))
    (number_absent (rule4 p) 3 14 (from16 p) (λ e. absurd (omega arith))
    (number_absent (rule16 p) 15 14 (from5 p) (λ e. absurd (omega arith))
    (number_absent (rule5 p) 4 14 (from6 p) (λ e. absurd (omega arith))
    (number_absent (rule6 p) 5 14 [] (λ e. absurd (omega arith)) (λ e. absurd (omega arith)))))))))

pub bad_point : BadPointTheorem
unfolding plan_refusal
bad_point p =
    number_later (rule1 p) 0 16 (from2 p) (λ e. absurd (omega arith))
    (number_later (rule2 p) 1 16 (from14 p) (λ e. absurd (omega arith))
    (number_later (rule14 p) 13 16 (from3 p) (λ e. absurd (omega arith))
    (number_later (rule3 p) 2 16 (from4 p) (λ e. absurd (omega arith))
    (number_later (rule4 p) 3 16 (from16 p) (λ e. absurd (omega arith))
    (number_here (rule16 p) 15 (from5 p) (rule16_says p)
    (number_absent (rule5 p) 4 16 (from6 p) (λ e. absurd (omega arith))
    (number_absent (rule6 p) 5 16 [] (λ e. absurd (omega arith)) (λ e. absurd (omega arith)))))))))

-- no other number is a plan's refusal
pub plan_other : (p : Plan) (s : ℕ) → 6 < s → ¬ (14 ≡ s) → ¬ (16 ≡ s) → ¬ (plan_refusal p ≡ s)
unfolding plan_refusal
plan_other p s past not-14 not_16 =
    number_absent (rule1 p) 0 s (from2 p) (λ e. omega arith)
    (number_absent (rule2 p) 1 s (from14 p) (λ e. omega arith)
    (number_absent (rule14 p) 13 s (from3 p) not-14
    (number_absent (rule3 p) 2 s (from4 p) (λ e. omega arith)
    (number_absent (rule4 p) 3 s (from16 p) (λ e. omega arith)
    (number_absent (rule16 p) 15 s (from5 p) not_16
    (number_absent (rule5 p) 4 s (from6 p) (λ e. omega arith)
    (number_absent (rule6 p) 5 s [] (λ e. omega arith) (λ e. omega arith))))))))

-- ---- what an accepted plan gives

pub apart : ApartTheorem
apart p ok = (ok.count_range.1, any_two)
  where
    any_two : (i j : ℕ) → i < j → j < p.count → threshold_at p i + least_difference ≤ threshold_at p j
    any_two i zero l k = absurd (omega arith)
    any_two i (suc j) l k =
        ⊎_elim (λ e. let z : i ≡ j = omega arith in rw z (ok.thresholds_apart j k))
        (λ m. omega (arith, any_two i j (omega arith) (omega arith), ok.thresholds_apart j k)) (eq-or-lt_of_le l)

module _ (p : Plan) where
  -- an end is at most a million
  pub permitted_le : Accepted p → (e : ℕ) → Permitted p e → e ≤ million
  unfolding million
  permitted_le ok e (inl z) = omega arith
  permitted_le ok e (inr (inl z)) = omega arith
  permitted_le ok e (inr (inr z)) = omega (arith, z.2, ok.threshold_range z.0 z.1)

  -- the walk of the threshold at place i
  module _ (ok : Accepted p) (i : ℕ) (l : i < p.count) where
    pub threshold_ok : threshold_at p i ≤ million
    unfolding million
    threshold_ok = omega (arith, (ok.threshold_range i l).1)

    pub spends : IsSpending (spending_of p i)
    unfolding spending_of
    spends =
        let s = ok.points_sound in
        by_rule (eq? p.points 0) (spending_is (allowance_at p i) p.delay ok.delay_range.0 (ok.allowance_range i l).1)
        (point_spending_is (allowance_at p i) _ (share_rises (step_at p) (share_at p) p.points s.shares_keep)
        (λ n. share_most (step_at p) (share_at p) million p.points n s.share_range) (ok.allowance_range i l).1)
      where
        by_rule : (b : Bool) {E F : ℕ → ℕ} → IsSpending E → IsSpending F → IsSpending (λ n. choose b (E n) (F n))
        by_rule true e f = e
        by_rule false e f = f

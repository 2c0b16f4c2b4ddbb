-- What may be spent under a plan, in words, and as the portion of each allowance that code computes (specs/Plan, specs/Tables).
use mathlib.Core.Path.{◌≡◌, refl, sym, ap, ◌∙◌}
use mathlib.Core.Bool.{Bool, true, false}
use mathlib.Core.Logic.{◌⊎◌, inl, inr, ⊎_elim}
use Prim.Native.Nat.{ℕ, zero, suc, ◌≤◌, ◌<◌}
use native.Mathlib.Nat.{mul-zero, zero-div}
use native.Mathlib.Omega.{arith}
use Rattle.walk.specs.Units.{million, allowance_limit, horizon_limit}
use Rattle.walk.specs.Numbers.{choose}
use Rattle.walk.specs.Spending.{spending, portioned}
use Rattle.walk.specs.declared.Portion.{Portion}
use Rattle.walk.proofs.SpendingLaws.{spending-zero}
use Rattle.plan.specs.Places.{eq?}
use Rattle.plan.specs.Points.{point_spending, share_by}
use Rattle.plan.specs.Plan.{allowance_at, step_at, share_at, spending_of, Accepted, Spends, SpendingTheorem}
use Rattle.plan.specs.Tables.{portion_by, portion_of}
use Rattle.plan.specs.declared.Plan.{Plan}
use Rattle.plan.proofs.PlaceLaws.{eq?_complete, eq?_fails}
use Rattle.plan.proofs.PointLaws.{share_last, share_none, share_most}
use Rattle.plan.proofs.AcceptedLaws.{spends}

module _ (p : Plan) where
  -- without points by the delay, with points by the share
  without : (i n : ℕ) → p.points ≡ 0 → spending_of p i n ≡ spending (allowance_at p i) p.delay n
  unfolding spending_of
  without i n none = rw (eq?_complete p.points 0 none)

  with_points_lem : (i n : ℕ) → 1 ≤ p.points → spending_of p i n ≡ point_spending (allowance_at p i) (share_by (step_at p) (share_at p) p.points n)
  unfolding spending_of
  with_points_lem i n some = rw (eq?_fails p.points 0 (λ e. omega arith))

  nothing : (allowance : ℕ) → point_spending allowance 0 ≡ 0
  unfolding point_spending
  nothing allowance = rw (mul-zero allowance) (zero-div million)

  before_all : (i n : ℕ) → 1 ≤ p.points → ((j : ℕ) → j < p.points → n < step_at p j) → spending_of p i n ≡ 0
  before_all i n some late =
      with_points_lem i n some ∙ ap (point_spending (allowance_at p i)) (share_none (step_at p) (share_at p) p.points n late) ∙ nothing (allowance_at p i)

  says : (i n : ℕ) → Spends p i n
  unfolding spending point_spending
  says i n = record {
    by_delay = without i n;
    by_point = λ j h.
        with_points_lem i n (omega (arith, h.counted)) ∙ ap (point_spending (allowance_at p i)) (share_last (step_at p) (share_at p) p.points n j h);
    before_points = before_all i n;
  }

  -- E(n) as code computes it, and with a portion and a number that code computed
  pub portion_spends : (i n : ℕ) → spending_of p i n ≡ portioned (portion_of p n) (allowance_at p i)
  unfolding spending_of portion_of spending point_spending
  portion_spends i n = go (eq? p.points 0) (share_by (step_at p) (share_at p) p.points n)
    where
      go : (b : Bool) (share : ℕ)
          → choose b (spending (allowance_at p i) p.delay n) (point_spending (allowance_at p i) share)
          ≡ portioned (portion_by b p.delay share n) (allowance_at p i)
      go true share = refl
      go false share = refl

  pub spent_is : (i n : ℕ) (q : Portion) (e : ℕ) → q ≡ portion_of p n → e ≡ portioned q (allowance_at p i) → e ≡ spending_of p i n
  spent_is i n q e portion made = made ∙ ap (λ (r : Portion). portioned r (allowance_at p i)) portion ∙ sym (portion_spends i n)

  module _ (ok : Accepted p) where
    -- no draw yet: no point is at or before step 0
    at_start : (i : ℕ) → spending_of p i 0 ≡ 0
    at_start i =
        ⊎_elim (λ none. without i 0 none ∙ spending-zero (allowance_at p i) p.delay) (λ some. before_all i 0 some (λ j l. (ok.points_sound.step_range j l).0))
        (zero_or_more p.points)
      where
        zero_or_more : (n : ℕ) → (n ≡ 0) ⊎ (1 ≤ n)
        zero_or_more zero = inl refl
        zero_or_more (suc n) = inr (omega arith)

    -- what the code asks of it
    pub portion_fits : (n : ℕ) → n ≤ horizon_limit → ((portion_of p n).numerator ≤ million) × (1 ≤ (portion_of p n).denominator)
    unfolding portion_of horizon_limit million
    portion_fits n early = go (eq? p.points 0) _ (share_most (step_at p) (share_at p) million p.points n ok.points_sound.share_range)
      where
        go : (b : Bool) (share : ℕ) → share ≤ million → ((portion_by b p.delay share n).numerator ≤ million) × (1 ≤ (portion_by b p.delay share n).denominator)
        go true share few = (omega arith, omega (arith, ok.delay_range.0))
        go false share few = (few, omega arith)

    pub may_spend : (i n : ℕ) → i < p.count → n ≤ horizon_limit → (q : Portion) → q ≡ portion_of p n
        → (allowance_at p i ≤ allowance_limit) × (q.numerator ≤ million) × (1 ≤ q.denominator)
    may_spend i n l early q portion = let k = portion_fits n early in ((ok.allowance_range i l).1, rw portion k.0, rw portion k.1)

pub spending_theorem : SpendingTheorem
spending_theorem = (says, λ p ok i l. (at_start p ok i, spends p ok i l))

-- Spending by points: the share is that of the last point at or before n, never falls, and makes a spending (specs/Points).
use mathlib.Core.Path.{◌≡◌, refl, ap, ◌∙◌}
use mathlib.Core.Bool.{Bool, true, false}
use mathlib.Core.Logic.{⊎_elim}
use Prim.Native.Nat.{ℕ, zero, suc, ◌*◌, ◌≤◌, ◌<◌}
use native.Mathlib.Nat.{le-div_iff_mul-le, div-mul-le_self, le_trans, mul-le-mul, le_of_mul-le-mul_right, eq-or-lt_of_le}
use native.Mathlib.Omega.{arith}
use Rattle.walk.specs.Numbers.{le?, choose}
use Rattle.walk.specs.Units.{M, million, allowance_limit}
use Rattle.walk.specs.Spending.{IsSpending}
use Rattle.walk.proofs.Tests.{Le?, le, gt, test, le?_complete, le?_fails}
use Rattle.plan.specs.Points.{point_spending, share_by, LastPoint}

module _ (step share : ℕ → ℕ) where
  -- a point at or before n has its share, one after n leaves it to those before
  pub share_reached : (points n : ℕ) → step points ≤ n → share_by step share (suc points) n ≡ share points
  unfolding share_by
  share_reached points n h = rw (le?_complete (step points) n h)

  pub share_later : (points n : ℕ) → n < step points → share_by step share (suc points) n ≡ share_by step share points n
  unfolding share_by
  share_later points n h = rw (le?_fails (step points) n h)

  -- where what holds in both cases is asked
  either : (points n : ℕ) (P : ℕ → Type 0) → (step points ≤ n → P (share points)) → (n < step points → P (share_by step share points n))
      → P (share_by step share (suc points) n)
  unfolding share_by
  either points n P f g = go (le? (step points) n) (test (step points) n)
    where
      go : (b : Bool) → Le? (step points) n b → P (choose b (share points) (share_by step share points n))
      go true (le h) = f h
      go false (gt h) = g h

  pub share_last : (points n j : ℕ) → LastPoint step points n j → share_by step share points n ≡ share j
  share_last zero n j h = absurd (omega (arith, h.counted))
  share_last (suc points) n j h =
      either points n (λ x. x ≡ share j)
      (λ l. let e : points ≡ j = omega (arith, h.last points (omega arith) l, h.counted) in ap share e)
      (λ l. share_last points n j (record { counted = before l; reached = h.reached; last = λ i k. h.last i (omega arith) }))
    where
      before : n < step points → j < points
      before l = ⊎_elim (λ e. let z : j ≡ points = omega arith in absurd (omega (arith, h.reached, ap step z))) (λ k. omega arith) (eq-or-lt_of_le h.counted)

  pub share_none : (points n : ℕ) → ((i : ℕ) → i < points → n < step i) → share_by step share points n ≡ 0
  unfolding share_by
  share_none zero n h = refl
  share_none (suc points) n h = share_later points n (h points (omega arith)) ∙ share_none points n (λ i l. h i (omega arith))

  -- no share is over a bound that all keep
  pub share_most : (most points n : ℕ) → ((j : ℕ) → j < points → share j ≤ most) → share_by step share points n ≤ most
  unfolding share_by
  share_most most zero n h = omega arith
  share_most most (suc points) n h =
      either points n (λ x. x ≤ most) (λ _. h points (omega arith)) (λ _. share_most most points n (λ j l. h j (omega arith)))

  -- where the shares of the points never fall, neither does the share
  pub share_rises : (points : ℕ) → ((j : ℕ) → suc j < points → share j ≤ share (suc j)) → (n : ℕ)
      → share_by step share points n ≤ share_by step share points (suc n)
  unfolding share_by
  share_rises zero up n = omega arith
  share_rises (suc points) up n =
      either points (suc n) (λ x. share_by step share (suc points) n ≤ x)
      (λ _. share_most (share points) (suc points) n (λ j l. below j l))
      (λ l. rw (share_later points n (omega arith)) (share_rises points (λ j k. up j (omega arith)) n))
    where
      below : (j : ℕ) → j < suc points → share j ≤ share points
      below j l = climb points j (omega arith) (omega arith)
        where
          climb : (i j : ℕ) → i < suc points → j ≤ i → share j ≤ share i
          climb zero j k l = let e : j ≡ 0 = omega arith in rw e (omega arith)
          climb (suc i) j k l =
              ⊎_elim (λ e. let z : j ≡ suc i = omega arith in rw z (omega arith)) (λ m. omega (arith, climb i j (omega arith) (omega arith), up i k)) (eq-or-lt_of_le l)

-- points that agree at each counted place
pub share_cong : (f g s t : ℕ → ℕ) (points n : ℕ) → ((j : ℕ) → j < points → (f j ≡ g j) × (s j ≡ t j)) → share_by f s points n ≡ share_by g t points n
unfolding share_by
share_cong f g s t zero n e = refl
share_cong f g s t (suc points) n e =
    rw (share_cong f g s t points n (λ j l. e j (omega arith)), (e points (omega arith)).0, (e points (omega arith)).1)

-- a share of at most a million that never falls makes a spending
module _ (allowance : ℕ) (share : ℕ → ℕ) (up : (n : ℕ) → share n ≤ share (suc n)) (few : (n : ℕ) → share n ≤ million) where
  point_le : (n : ℕ) → point_spending allowance (share n) ≤ allowance
  unfolding point_spending million
  point_le n =
      le_of_mul-le-mul_right {k = million} (le_trans (div-mul-le_self (allowance * share n) million) (mul-le-mul {n₁ = allowance} (omega arith) (few n))) (omega arith)

  point_rises : (n : ℕ) → point_spending allowance (share n) ≤ point_spending allowance (share (suc n))
  unfolding point_spending million
  point_rises n =
      (le-div_iff_mul-le {k = million} (omega arith)).1 (le_trans (div-mul-le_self (allowance * share n) million) (mul-le-mul {n₁ = allowance} (omega arith) (up n)))

  pub point_spending_is : allowance ≤ allowance_limit → IsSpending (λ n. point_spending allowance (share n))
  unfolding M allowance_limit
  point_spending_is limit = record { rises = point_rises; half = λ n. omega (arith, point_le n) }

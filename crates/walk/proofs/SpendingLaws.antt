-- The formula spending of a plan never falls and stays below one half.
use Rattle.std.proofs.Common.{◌≡◌, ℕ, suc, ◌+◌, ◌*◌, ◌≤◌, le_trans, mul-zero, le-div_iff_mul-le, div-mul-le_self, le_of_mul-le-mul_right, arith}
use native.Mathlib.Nat.{zero-div}
use Rattle.walk.specs.Units.{M, allowance_limit}
use Rattle.walk.specs.Spending.{spending, IsSpending}

pub spending-zero : (allowance delay : ℕ) → spending allowance delay 0 ≡ 0
unfolding spending
spending-zero allowance delay = rw (mul-zero allowance) (zero-div (0 + delay))

module _ (allowance delay : ℕ) (delayed : 1 ≤ delay) where
  pub spending_le : (n : ℕ) → spending allowance delay n ≤ allowance
  unfolding spending
  spending_le n =
      le_of_mul-le-mul_right {k = n + delay} (le_trans (div-mul-le_self (allowance * n) (n + delay)) (omega arith)) (omega arith)

  pub spending_rises : (n : ℕ) → spending allowance delay n ≤ spending allowance delay (suc n)
  unfolding spending
  spending_rises n =
      (le-div_iff_mul-le {k = suc n + delay} (omega arith)).1
      (omega (arith, div-mul-le_self (allowance * n) (n + delay), spending_le n))

  pub spending_is : allowance ≤ allowance_limit → IsSpending (spending allowance delay)
  unfolding M allowance_limit
  spending_is limit = record { rises = spending_rises; half = λ n. omega (arith, spending_le n) }

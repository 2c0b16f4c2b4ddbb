-- Spending: how much of its allowance each side of a threshold may have spent after n draws (rules 3.1).
use Rattle.std.specs.Prelude.{ℕ, suc, ◌+◌, ◌*◌, ◌/◌, ◌<◌, ◌≤◌}
use Rattle.walk.specs.Units.{M}
use Rattle.walk.specs.declared.Portion.{Portion}

-- E(n) = allowance × n / (n + k), rounded down, with k the delay
unfoldable pub spending : ℕ → ℕ → ℕ → ℕ
spending allowance delay n = allowance * n / (n + delay)

-- all that the walk asks of a spending: it never falls, and stays below one half
pub record IsSpending (E : ℕ → ℕ) : Type 0 where
  pub rises : (n : ℕ) → E n ≤ E (suc n)
  pub half : (n : ℕ) → E n + E n < M

-- a portion of an allowance, rounded down: what code computes, for inner contracts
abbrev pub portioned : Portion → ℕ → ℕ
portioned q allowance = allowance * q.numerator / q.denominator

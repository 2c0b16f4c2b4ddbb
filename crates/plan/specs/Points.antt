-- Spending by points (rules 3.1). A point is a step and a share, in millionths, of each allowance.
use Rattle.std.specs.Prelude.{ℕ, zero, suc, ◌*◌, ◌/◌, ◌≤◌, ◌<◌}
use Rattle.walk.specs.Numbers.{le?, choose}
use Rattle.walk.specs.Units.{million}

-- E(n) = allowance × share / 1,000,000, rounded down, ..
unfoldable pub point_spending : ℕ → ℕ → ℕ
point_spending allowance share = allowance * share / million

-- .. where the share is that of the last point at or before n, and 0 before the first: so many points, with these steps and shares by place, are
-- looked at from the last one back. Places are counted from 0.
module _ (step share : ℕ → ℕ) where
  unfoldable pub share_by : ℕ → ℕ → ℕ
  share_by zero n = 0
  share_by (suc points) n = choose (le? (step points) n) (share points) (share_by points n)

-- the point at place j is the last, by place, of so many at or before n; where steps rise, it is the last by step too
pub record LastPoint (step : ℕ → ℕ) (points n j : ℕ) : Type 0 where
  pub counted : j < points
  pub reached : step j ≤ n
  pub last : (i : ℕ) → i < points → step i ≤ n → i ≤ j

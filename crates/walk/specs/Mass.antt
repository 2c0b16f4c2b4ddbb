-- One new mass (rules 3.3), and whether it was rounded.
use Rattle.std.specs.Prelude.{ℕ, ◌+◌, ◌-◌, ◌*◌, ◌/◌, ◌%◌}
use Rattle.walk.specs.Numbers.{lt?, only}
use Rattle.walk.specs.Units.{million}

-- of x millionths of a unit: 1 where they are no whole number of units, else 0
unfoldable pub rounds : ℕ → ℕ
rounds x = only (lt? 0 (x % million)) 1

-- x millionths of a unit, rounded up to units
unfoldable pub round_up : ℕ → ℕ
round_up x = x / million + rounds x

-- what reaches a count, in millionths of a unit: the old mass there stays with each draw 0, and the old mass at the count before
-- comes with each draw 1
unfoldable pub reaching : ℕ → ℕ → ℕ → ℕ
reaching a stay come = stay * (million - a) + come * a

-- the new mass, rounded up once
unfoldable pub mass_up : ℕ → ℕ → ℕ → ℕ
mass_up a stay come = round_up (reaching a stay come)

-- 1 where the new mass was rounded, else 0
unfoldable pub rounding : ℕ → ℕ → ℕ → ℕ
rounding a stay come = rounds (reaching a stay come)

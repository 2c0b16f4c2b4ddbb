-- The fixed numbers of the rules.
use Rattle.std.specs.Prelude.{ℕ}

-- M, the whole, in units of 1 / 2^42 (rules 1.1)
unfoldable pub M : ℕ
M = 4398046511104

-- thresholds are in millionths (rules 1.1)
unfoldable pub million : ℕ
million = 1000000

-- the live counts of a wide walk, and the words of one threshold's part (rules 3.7, 5.1)
unfoldable pub wide : ℕ
wide = 769

-- the largest live word of a state that is not spoiled, 2^43 (rules 8.4)
unfoldable pub mass_limit : ℕ
mass_limit = 8796093022208

-- the largest horizon, in draws, and the largest allowance (rules 1.4)
unfoldable pub horizon_limit : ℕ
horizon_limit = 50000

unfoldable pub allowance_limit : ℕ
allowance_limit = 2199023255551

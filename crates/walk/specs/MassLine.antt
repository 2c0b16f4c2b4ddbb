-- The line of code that rounds a new mass up (rules 3.3), an addition before the division, and the one that tells whether it did: no branch.
use Rattle.std.specs.Prelude.{◌≡◌, ℕ, ◌+◌, ◌-◌, ◌*◌, ◌/◌, ◌^◌, ◌<◌, ◌≤◌}
use Rattle.walk.specs.Numbers.{lt?, only, Smallest}
use Rattle.walk.specs.Units.{million, mass_limit}
use Rattle.walk.specs.Mass.{reaching, mass_up, rounding}

-- a word of 64 bits is below this
unfoldable pub word_end : ℕ
word_end = 2 ^ 64

-- what is added before the division: a millionth of a unit less than a unit
unfoldable pub almost_one : ℕ
almost_one = 999999

-- what the line divides, with the sum written out, and the line; `stay` is the old mass at the count, `come` that at the count before
abbrev pub line_sum : ℕ → ℕ → ℕ → ℕ
line_sum a stay come = stay * (million - a) + come * a + almost_one

abbrev pub mass_line : ℕ → ℕ → ℕ → ℕ
mass_line a stay come = line_sum a stay come / million

pub record LineFacts (a stay come : ℕ) : Type 0 where
  -- each product and the whole sum stay below 2^64
  pub stay_fits : stay * (million - a) < word_end
  pub come_fits : come * a < word_end
  pub sum_fits : line_sum a stay come < word_end
  -- the exact quotient, rounded up: the fewest units, 2^43 at most, that are no less than what reaches the count ..
  pub rounded_up : Smallest (λ (units : ℕ). reaching a stay come ≤ units * million) 0 mass_limit (mass_line a stay come)
  -- .. and so the new mass, which is defined by the remainder
  pub same : mass_line a stay come ≡ mass_up a stay come
  -- compared in millionths of a unit, which stay below 2^64 too, it is more than what reaches the count just where it was rounded
  pub units_fit : mass_line a stay come * million < word_end
  pub tells : only (lt? (reaching a stay come) (mass_line a stay come * million)) 1 ≡ rounding a stay come

-- of every threshold up to a million and masses up to 2^43
abbrev pub MassLineTheorem : Type 0
MassLineTheorem = (a stay come : ℕ) → a ≤ million → stay ≤ mass_limit → come ≤ mass_limit → LineFacts a stay come

-- A row as the code holds it: a record with a signed lower boundary, and the words of the threshold's part, the live ones in front.
use Rattle.std.specs.Prelude.{◌≡◌, ℕ, suc, ◌-◌, ◌≤◌, Bool, List, ◌++◌, length, take, replicate, ℤ, pos, negsuc}
use Rattle.walk.specs.Units.{wide, horizon_limit}
use Rattle.walk.specs.Walk.{below, wide?}
use Rattle.walk.specs.Row.{Row, upper, start_row}
use Rattle.walk.specs.declared.Walked.{Walked}

-- the first count above a lower boundary: lower + 1, and 0 below -1
unfoldable pub first_above : ℤ → ℕ
first_above (pos b) = suc b
first_above (negsuc b) = 0

-- a lower boundary from -1 on, of a walk of at most 50,000 draws; for inner contracts
abbrev pub Counted : ℤ → Type 0
Counted z = (z ≡ below (first_above z)) × (first_above z ≤ suc horizon_limit)

-- .. and of any two boundaries: the lower one is -1 or more, and the first live count is at most the upper one; for inner contracts
abbrev pub Ordered : Walked → Type 0
Ordered w = (w.lower ≡ below (first_above w.lower)) × (first_above w.lower ≤ w.upper)

-- the row of a record and its words: word i is the mass at count lower + 1 + i (rules 5.1)
unfoldable pub row_of : Walked → List ℕ → Row
row_of w words = record {
  first = first_above w.lower;
  masses = take (w.upper - first_above w.lower) words;
  over = w.over;
  under = w.under;
  rounded = w.rounded;
}

unfoldable pub record_of : Row → Walked
record_of r = record { lower = below r.first; upper = upper r; over = r.over; under = r.under; rounded = r.rounded }

-- the words of a row: words after the live counts are zero
unfoldable pub padded : List ℕ → List ℕ
padded masses = masses ++ replicate (wide - length masses) 0

-- step 0, as a record and its words (rules 3.2, 5.1)
unfoldable pub start_walked : Walked
start_walked = record_of start_row

unfoldable pub start_part : List ℕ
start_part = padded start_row.masses

unfoldable pub is_wide : Walked → Bool
is_wide w = wide? w.upper w.lower

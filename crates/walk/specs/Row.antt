-- The same walk in the form that runs (rules 3.2 to 3.6): a row, the list of the live masses from the first live count on, which the words of the threshold's
-- part hold. proofs/Agreement shows that both forms agree at every step.
use Rattle.std.specs.Prelude.{ℕ, zero, suc, ◌+◌, ◌-◌, ◌<◌, ◌≤◌, List, [], ◌∷◌, length, take, drop, slice_index, slice_range}
use Rattle.walk.specs.Numbers.{le?, only, choose, sum}
use Rattle.walk.specs.Units.{M}
use Rattle.walk.specs.Mass.{mass_up, rounding}

pub record Row : Type 0 where
  pub first : ℕ
  pub masses : List ℕ
  -- the upper and the lower spent mass
  pub over : ℕ
  pub under : ℕ
  -- how many new masses were rounded so far
  pub rounded : ℕ

abbrev pub upper : Row → ℕ
upper r = r.first + length r.masses

-- live mass plus both spent masses
abbrev pub total : Row → ℕ
total r = sum r.masses + r.over + r.under

-- masses by count: those of the list, the first of them at count f, and 0 at every other count
unfoldable pub by_count : ℕ → List ℕ → ℕ → ℕ
by_count f masses c = only (le? f c) (slice_index masses (c - f))

unfoldable pub start_row : Row
start_row = record { first = 0; masses = M ∷ []; over = 0; under = 0; rounded = 0 }

-- a number for each count from the first live one to the upper boundary, made of the old masses there and at the count before, which
-- is `come` for the first
unfoldable pub cells_by : (ℕ → ℕ → ℕ) → ℕ → List ℕ → List ℕ
cells_by cell come [] = cell 0 come ∷ []
cells_by cell come (x ∷ xs) = cell x come ∷ cells_by cell x xs

-- the new masses (rules 3.3); and how many of them were rounded
abbrev pub new_masses : ℕ → List ℕ → List ℕ
new_masses a xs = cells_by (mass_up a) 0 xs

abbrev pub roundings : ℕ → List ℕ → ℕ
roundings a xs = sum (cells_by (rounding a) 0 xs)

-- how many cells lie under the upper boundary (rules 3.4): the fewest such that the others and the upper spent mass are at most e
unfoldable pub kept : ℕ → ℕ → List ℕ → ℕ
kept e over [] = 0
kept e over (x ∷ xs) = let r = suc (kept e over xs) in choose (le? (sum (x ∷ xs) + over) e) 0 r

-- how many cells lie at or under the lower boundary (rules 3.5): the most that are, with the lower spent mass, at most e
unfoldable pub dropped : ℕ → ℕ → List ℕ → ℕ
dropped e under [] = 0
dropped e under (x ∷ xs) = let r = suc (dropped e (x + under) xs) in choose (le? (x + under) e) r 0

-- (rules 3.6) of the cells cs, of which `more` were rounded, the first d and those from place k on join the spent masses
unfoldable pub cut : List ℕ → ℕ → ℕ → ℕ → Row → Row
cut cs more d k r = record {
  first = r.first + d;
  masses = slice_range cs d k;
  over = r.over + sum (drop k cs);
  under = r.under + sum (take d cs);
  rounded = r.rounded + more;
}

-- one step, with e to spend
unfoldable pub step_row : ℕ → ℕ → Row → Row
step_row a e r =
    cut (new_masses a r.masses) (roundings a r.masses)
    (dropped e r.under (new_masses a r.masses))
    (kept e r.over (new_masses a r.masses))
    r

-- the row after step n
unfoldable pub rows : ℕ → (ℕ → ℕ) → ℕ → Row
rows a E zero = start_row
rows a E (suc n) = step_row a (E (suc n)) (rows a E n)

-- What a step asks of a row: a live count, spent masses that e allows, and no mass lost.
pub record Sound (e : ℕ) (r : Row) : Type 0 where
  pub live : 0 < length r.masses
  pub over_fits : r.over ≤ e
  pub under_fits : r.under ≤ e
  pub full : M ≤ total r

-- the same after n steps, where no count is past n
pub record SoundAt (E : ℕ → ℕ) (n : ℕ) (r : Row) : Type 0 where
  pub sound : Sound (E n) r
  pub top : upper r ≤ suc n

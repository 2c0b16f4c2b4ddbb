-- What is claimed of one step and of a walk (rules 3.8).
use Rattle.std.specs.Prelude.{◌≡◌, ℕ, suc, ◌+◌, ◌*◌, ◌<◌, ◌≤◌, true, ◌⊎◌, length, pos, ◌-ℤ◌, ◌≤ℤ◌}
use Rattle.walk.specs.Numbers.{le?, only, Smallest, Largest, sum_to, all_up_to}
use Rattle.walk.specs.Units.{M, million, wide}
use Rattle.walk.specs.Spending.{IsSpending}
use Rattle.walk.specs.Walk.{Walk, lower, new_mass, new_rounding, FitsUpper, FitsLower, step_walk, walk, NoWideBefore}
use Rattle.walk.specs.Row.{Row, upper, total, by_count, roundings, step_row, rows, Sound, SoundAt}
use Rattle.walk.specs.Strings.{Side}
use Rattle.walk.specs.Chance.{spent}

-- a row, by count
unfoldable pub as_walk : Row → Walk
as_walk r = record { first = r.first; upper = upper r; mass = by_count r.first r.masses; over = r.over; under = r.under; rounded = r.rounded }

-- the two forms of a walk, by count and by row, are the same
pub record Same (w : Walk) (r : Row) : Type 0 where
  pub first_same : w.first ≡ r.first
  pub upper_same : w.upper ≡ upper r
  pub mass_same : (c : ℕ) → w.mass c ≡ by_count r.first r.masses c
  pub over_same : w.over ≡ r.over
  pub under_same : w.under ≡ r.under
  pub rounded_same : w.rounded ≡ r.rounded

-- ---- one step, with e to spend

-- what a step does to the boundaries and the masses of the row r, where s is the row after it
pub record Moves (a : ℕ) (r s : Row) : Type 0 where
  pub upper_slow : upper s ≤ suc (upper r)
  pub lower_rises : r.first ≤ s.first
  -- it counts the new masses that were rounded, and adds at most one unit for each; there are as many new masses as live counts, and one more
  pub counts : s.rounded ≡ r.rounded + roundings a r.masses
  pub adds : total s ≤ total r + roundings a r.masses
  pub few : roundings a r.masses ≤ suc (length r.masses)
  -- no cell exceeds the largest old mass
  pub none_larger : (b : ℕ) → all_up_to b r.masses ≡ true → all_up_to b s.masses ≡ true

-- step n + 1 from the row r
pub record StepFacts (a e n : ℕ) (r : Row) : Type 0 where
  -- both boundaries exist: they are those of rules 3.4 and 3.5, and no other number is (proofs/Searches)
  pub upper_is : Smallest (FitsUpper (suc n) e (new_mass a (by_count r.first r.masses)) r.over) 1 (1 + suc n) (upper (step_row a e r))
  pub lower_is : Largest (FitsLower (suc n) e (new_mass a (by_count r.first r.masses)) r.under) 0 (suc (suc n)) (step_row a e r).first
  -- it is the step of the rules, masses and spent masses too
  pub same : Same (step_walk a e (suc n) (as_walk r)) (step_row a e r)
  -- a live count is left, each spent mass is at most e, and no mass is lost
  pub sound : Sound e (step_row a e r)
  pub moves : Moves a r (step_row a e r)

-- of every row that is sound after n steps, not only of those of a walk
abbrev pub StepTheorem : Type 0
StepTheorem =
    (a : ℕ) → a ≤ million → (E : ℕ → ℕ) → IsSpending E → (n : ℕ) (r : Row) → SoundAt E n r
    → StepFacts a (E (suc n)) n r × SoundAt E (suc n) (step_row a (E (suc n)) r)

-- ---- the walk

-- live mass plus both spent masses: the masses at the counts strictly between the boundaries, and the two
abbrev pub mass_of : Walk → ℕ
mass_of w = sum_to w.upper (λ c. only (le? w.first c) (w.mass c)) + w.over + w.under

-- after step n
pub record WalkFacts (a : ℕ) (E : ℕ → ℕ) (n : ℕ) : Type 0 where
  -- both boundaries of the next step exist
  pub upper_is : Smallest (FitsUpper (suc n) (E (suc n)) (new_mass a (walk a E n).mass) (walk a E n).over) 1 (1 + suc n) (walk a E (suc n)).upper
  pub lower_is : Largest (FitsLower (suc n) (E (suc n)) (new_mass a (walk a E n).mass) (walk a E n).under) 0 (suc (suc n)) (walk a E (suc n)).first
  pub apart : pos 2 ≤ℤ (pos (walk a E n).upper -ℤ lower (walk a E n))
  pub top : (walk a E n).upper ≤ suc n
  pub upper_slow : (walk a E (suc n)).upper ≤ suc (walk a E n).upper
  pub lower_rises : lower (walk a E n) ≤ℤ lower (walk a E (suc n))
  pub allowed : (side : Side) → spent side (walk a E n) ≤ E n
  pub no_less : M ≤ mass_of (walk a E n)
  -- one unit at most comes in for each mass rounded; their number
  pub adds : mass_of (walk a E n) ≤ M + (walk a E n).rounded
  pub few : NoWideBefore a E n → (walk a E n).rounded ≤ wide * n
  pub no_more : NoWideBefore a E n → mass_of (walk a E n) ≤ M + wide * n
  -- a count at or beyond a boundary is not live and has no mass
  pub off : (c : ℕ) → (c < (walk a E n).first) ⊎ ((walk a E n).upper ≤ c) → (walk a E n).mass c ≡ 0
  -- a count that rules 3.3 do not name, before the first live one or past the upper boundary, gets no new mass, and nothing is rounded there
  pub new_off : (c : ℕ) → (c < (walk a E n).first) ⊎ ((walk a E n).upper < c) → new_mass a (walk a E n).mass c ≡ 0
  pub none_rounded : (c : ℕ) → (c < (walk a E n).first) ⊎ ((walk a E n).upper < c) → new_rounding a (walk a E n).mass c ≡ 0
  pub small : (c : ℕ) → (walk a E n).mass c ≤ M

-- the two forms agree at every step ..
abbrev pub AgreementTheorem : Type 0
AgreementTheorem = (a : ℕ) → a ≤ million → (E : ℕ → ℕ) → IsSpending E → (n : ℕ) → Same (walk a E n) (rows a E n)

-- .. and the facts hold
abbrev pub WalkTheorem : Type 0
WalkTheorem = (a : ℕ) → a ≤ million → (E : ℕ → ℕ) → IsSpending E → (n : ℕ) → WalkFacts a E n

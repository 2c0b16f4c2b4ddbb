-- The new masses of a row: how many, none lost, one unit more for each that was really rounded, none over the largest old one.
use Rattle.std.proofs.Common.{◌≡◌, ℕ, zero, suc, ◌+◌, ◌*◌, ◌≤◌, true, List, [], ◌∷◌, length, get_or, refl, ap, arith}
use Rattle.walk.specs.Numbers.{sum, all_up_to}
use Rattle.walk.specs.Units.{million}
use Rattle.walk.specs.Mass.{reaching, mass_up, rounding}
use Rattle.walk.specs.Row.{cells_by, new_masses, roundings}
use Rattle.walk.proofs.Lists.{all_cons, cons_all}
use Rattle.walk.proofs.Rounding.{whole_threshold, mass_ge, mass_le, rounding_le, mass_small}

pub cells_length : (cell : ℕ → ℕ → ℕ) (come : ℕ) (xs : List ℕ) → length (cells_by cell come xs) ≡ suc (length xs)
unfolding cells_by
cells_length cell come [] = refl
cells_length cell come (x ∷ xs) = ap suc (cells_length cell x xs)

-- the old mass at the count before place i
abbrev pub comes : ℕ → List ℕ → ℕ → ℕ
comes come xs zero = come
comes come xs (suc i) = get_or xs i 0

pub cells-get_or : (cell : ℕ → ℕ → ℕ) → cell 0 0 ≡ 0 → (come : ℕ) (xs : List ℕ) (i : ℕ)
    → get_or (cells_by cell come xs) i 0 ≡ cell (get_or xs i 0) (comes come xs i)
unfolding cells_by
cells-get_or cell z come [] zero = refl
cells-get_or cell z come [] (suc i) = rw z
cells-get_or cell z come (x ∷ xs) zero = refl
cells-get_or cell z come (x ∷ xs) (suc zero) = cells-get_or cell z x xs zero
cells-get_or cell z come (x ∷ xs) (suc (suc i)) = cells-get_or cell z x xs (suc i)

pub roundings_le : (a come : ℕ) (xs : List ℕ) → sum (cells_by (rounding a) come xs) ≤ suc (length xs)
unfolding cells_by
roundings_le a come [] = omega (arith, rounding_le a 0 come)
roundings_le a come (x ∷ xs) = omega (arith, rounding_le a x come, roundings_le a x xs)

module _ (a : ℕ) (threshold : a ≤ million) where
  sum_ge : (come : ℕ) (xs : List ℕ) → sum xs * million + come * a ≤ sum (cells_by (mass_up a) come xs) * million
  unfolding cells_by reaching
  sum_ge come [] = omega (arith, mass_ge a 0 come)
  sum_ge come (x ∷ xs) = omega (arith, mass_ge a x come, whole_threshold x a threshold, sum_ge x xs)

  sum_le : (come : ℕ) (xs : List ℕ)
      → sum (cells_by (mass_up a) come xs) * million ≤ sum xs * million + come * a + sum (cells_by (rounding a) come xs) * million
  unfolding cells_by reaching
  sum_le come [] = omega (arith, mass_le a 0 come)
  sum_le come (x ∷ xs) = omega (arith, mass_le a x come, whole_threshold x a threshold, sum_le x xs)

  pub mass_kept : (xs : List ℕ) → sum xs ≤ sum (new_masses a xs)
  unfolding million
  mass_kept xs = omega (arith, sum_ge 0 xs)

  pub mass_added : (xs : List ℕ) → sum (new_masses a xs) ≤ sum xs + roundings a xs
  unfolding million
  mass_added xs = omega (arith, sum_le 0 xs)

  cells_up_to : (b come : ℕ) (xs : List ℕ) → come ≤ b → all_up_to b xs ≡ true → all_up_to b (cells_by (mass_up a) come xs) ≡ true
  unfolding cells_by
  cells_up_to b come [] h e = cons_all b (mass_up a 0 come) [] (mass_small a 0 come threshold b (omega arith) h) refl
  cells_up_to b come (x ∷ xs) h e =
      let old = all_cons b x xs e in
      cons_all b (mass_up a x come) (cells_by (mass_up a) x xs) (mass_small a x come threshold b old.0 h) (cells_up_to b x xs old.0 old.1)

  pub cells_small : (b : ℕ) (xs : List ℕ) → all_up_to b xs ≡ true → all_up_to b (new_masses a xs) ≡ true
  cells_small b xs e = cells_up_to b 0 xs (omega arith) e

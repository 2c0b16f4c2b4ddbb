-- Tests as Booleans, and how many of a list pass one: the small vocabulary of the other files.
use Rattle.std.specs.Prelude.{Bool, true, false, ◌&&◌, List, [], ◌∷◌, ℕ, suc, ◌+◌, leb, eqb}

-- m ≤ n; m < n; m = n
unfoldable pub le? : ℕ → ℕ → Bool
le? m n = leb m n

abbrev pub lt? : ℕ → ℕ → Bool
lt? m n = le? (suc m) n

unfoldable pub eq? : ℕ → ℕ → Bool
eq? m n = eqb m n

-- two lists are the same, number by number
abbrev pub same? : List ℕ → List ℕ → Bool
same? [] [] = true
same? [] (y ∷ ys) = false
same? (x ∷ xs) [] = false
same? (x ∷ xs) (y ∷ ys) = eq? x y && same? xs ys

-- 1 where a test passes, else 0
abbrev pub one_if : Bool → ℕ
one_if true = 1
one_if false = 0

-- how many of a list pass
abbrev pub how_many : {A : Type 0} → (A → Bool) → List A → ℕ
how_many test [] = 0
how_many test (x ∷ xs) = one_if (test x) + how_many test xs

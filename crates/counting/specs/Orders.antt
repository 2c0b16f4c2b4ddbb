-- All orders of a list of results (rules 13.5).
use Rattle.std.specs.Prelude.{◌≡◌, ℕ, zero, suc, ◌*◌, ◌≤◌, length}
use mathlib.Core.List.{List, [], ◌∷◌, ◌++◌, map, flat_map}
use Rattle.counting.specs.Tests.{eq?, same?, how_many}

-- ---- what an order is

-- no result stands twice in the list
pub record Different (xs : List ℕ) : Type 0 where
  pub once : (x : ℕ) → how_many (eq? x) xs ≤ 1

-- n different results: n down to 1
abbrev pub down_from : ℕ → List ℕ
down_from zero = []
down_from (suc n) = suc n ∷ down_from n

-- an order of xs: a list in which every result stands as often as in xs
pub record OrderOf (o xs : List ℕ) : Type 0 where
  pub often : (x : ℕ) → how_many (eq? x) o ≡ how_many (eq? x) xs

-- ---- the list of all orders

-- one result of a list, to come last, and the others
pub record Pick : Type 0 where
  pub last : ℕ
  pub others : List ℕ

abbrev pub behind : ℕ → Pick → Pick
behind x p = record { last = p.last; others = x ∷ p.others }

-- every way to pick one
abbrev pub picks : List ℕ → List Pick
picks [] = []
picks (x ∷ xs) = record { last = x; others = xs } ∷ map (behind x) (picks xs)

-- each result last, after every order of the others; k is how many there are
abbrev pub orders_of : ℕ → List ℕ → List (List ℕ)
orders_of zero xs = [] ∷ []
orders_of (suc k) xs = flat_map (λ p. map (λ o. o ++ (p.last ∷ [])) (orders_of k p.others)) (picks xs)

unfoldable pub orders : List ℕ → List (List ℕ)
orders xs = orders_of (length xs) xs

-- ---- the claim: the list holds n! orders, every order of xs exactly once, and no other list

unfoldable pub factorial : ℕ → ℕ
factorial zero = 1
factorial (suc n) = suc n * factorial n

pub record AllOrders (xs : List ℕ) : Type 0 where
  pub number : length (orders xs) ≡ factorial (length xs)
  pub every_once : (o : List ℕ) → OrderOf o xs → how_many (same? o) (orders xs) ≡ 1
  pub no_other : (o : List ℕ) → ¬ (OrderOf o xs) → how_many (same? o) (orders xs) ≡ 0

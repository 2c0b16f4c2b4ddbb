-- The share of the orders with an answer at most a value (rules 13.5): what is claimed. Definitions only.
use Rattle.std.specs.Prelude.{◌≡◌, Bool, false, List, [], ◌∷◌, map, ℕ, ◌*◌, ◌≤◌, ◌<◌, length}
use Rattle.counting.specs.Tests.{le?, one_if, how_many}
use Rattle.counting.specs.Run.{begun}
use Rattle.counting.specs.Stopping.{ending}
use Rattle.counting.specs.OneCall.{InRange}
use Rattle.counting.specs.Orders.{Different, down_from, OrderOf, orders, factorial, AllOrders}
use Rattle.counting.specs.declared.Answer.{Answer}
use Rattle.counting.specs.declared.Answer.TheVariants.{Open, Ended, Refused}

-- ---- the run of an order of results

-- the first result is the real one; each later one gives the draw 1 where it is at least the real one, else 0
abbrev pub draws : List ℕ → List ℕ
draws [] = []
draws (real ∷ shuffles) = map (λ x. one_if (le? real x)) shuffles

-- the answer that ends it
unfoldable pub answer_to : ℕ → ℕ → List ℕ → Answer
answer_to h n o = ending (begun h n).run (draws o)

-- a / b is at most j / l, multiplied out
abbrev pub at_most : ℕ → ℕ → Answer → Bool
at_most j l Open = false
at_most j l (Ended a b) = le? (a * l) (j * b)
at_most j l (Refused k) = false

-- ---- the claim

-- j / l is a value that a run can end with: h / l with l from h to n - 1, or j / n with j from 1 to h
pub data Value (h n j l : ℕ) : Type 0 where
  by_stop : j ≡ h → h ≤ l → l < n → Value h n j l
  by_size : 1 ≤ j → j ≤ h → l ≡ n → Value h n j l

-- the answer a ends a run, with such a value
pub record Ends (h n : ℕ) (a : Answer) : Type 0 where
  pub numerator : ℕ
  pub denominator : ℕ
  pub is : a ≡ Ended numerator denominator
  pub value : Value h n numerator denominator

-- so many orders of xs have an answer at most j / l
unfoldable pub orders_at_most : ℕ → ℕ → List ℕ → ℕ → ℕ → ℕ
orders_at_most h n xs j l = how_many (λ o. at_most j l (answer_to h n o)) (orders xs)

-- every order's run ends, and of every value j / l the share of orders with an answer at most j / l is exactly j / l
pub record Shares (h n : ℕ) (xs : List ℕ) : Type 0 where
  pub all : AllOrders xs
  pub ends : (o : List ℕ) → OrderOf o xs → Ends h n (answer_to h n o)
  pub share : (j l : ℕ) → Value h n j l → orders_at_most h n xs j l * l ≡ j * factorial n

-- of every h and n in range, and any n different results; and there are such
pub record ShareTheorem : Type 0 where
  pub shares : (h n : ℕ) → InRange h n → (xs : List ℕ) → Different xs → length xs ≡ n → Shares h n xs
  pub some : (n : ℕ) → Different (down_from n) × (length (down_from n) ≡ n)

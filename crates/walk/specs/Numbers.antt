-- Tests as Booleans, choices and sums: the small vocabulary of the other files.
use Rattle.std.specs.Prelude.{ℕ, zero, suc, ◌+◌, ◌≤◌, Bool, true, false, ◌&&◌, List, [], ◌∷◌, ℤ, pos, negsuc, ◌==◌, nat_le}

-- m ≤ n; m < n
unfoldable pub le? : ℕ → ℕ → Bool
le? m n = nat_le m n

abbrev pub lt? : ℕ → ℕ → Bool
lt? m n = le? (suc m) n

-- y = z, of signed numbers
unfoldable pub eq_z? : ℤ → ℤ → Bool
eq_z? (pos m) (pos n) = m == n
eq_z? (pos m) (negsuc n) = false
eq_z? (negsuc m) (pos n) = false
eq_z? (negsuc m) (negsuc n) = m == n

-- x where a test passes, else 0
abbrev pub only : Bool → ℕ → ℕ
only true x = x
only false x = 0

-- x where a test passes, else y
abbrev pub choose : Bool → ℕ → ℕ → ℕ
choose true x y = x
choose false x y = y

-- g 0 + .. + g (n - 1)
abbrev pub sum_to : ℕ → (ℕ → ℕ) → ℕ
sum_to zero g = 0
sum_to (suc n) g = sum_to n g + g n

-- the sum of a list; each number of a list is at most b
abbrev pub sum : List ℕ → ℕ
sum [] = 0
sum (x ∷ xs) = x + sum xs

abbrev pub all_up_to : ℕ → List ℕ → Bool
all_up_to b [] = true
all_up_to b (x ∷ xs) = le? x b && all_up_to b xs

-- j is the smallest number from lo to hi for which P holds; the largest
pub record Smallest (P : ℕ → Type 0) (lo hi j : ℕ) : Type 0 where
  pub from : lo ≤ j
  pub to : j ≤ hi
  pub holds : P j
  pub first : (i : ℕ) → lo ≤ i → i ≤ hi → P i → j ≤ i

pub record Largest (P : ℕ → Type 0) (lo hi j : ℕ) : Type 0 where
  pub from : lo ≤ j
  pub to : j ≤ hi
  pub holds : P j
  pub last : (i : ℕ) → lo ≤ i → i ≤ hi → P i → i ≤ j

-- the first of j, j + 1, .. that passes, else j + n
unfoldable pub search_up : ℕ → ℕ → (ℕ → Bool) → ℕ
search_up zero j p = j
search_up (suc n) j p = let r = search_up n (suc j) p in choose (p j) j r

-- the first of n, n - 1, .. that passes, else 0
unfoldable pub search_down : ℕ → (ℕ → Bool) → ℕ
search_down zero p = 0
search_down (suc n) p = let r = search_down n p in choose (p (suc n)) (suc n) r

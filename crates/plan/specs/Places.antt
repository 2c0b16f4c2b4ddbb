-- Tests by place, and lists made place by place: the small vocabulary of the other files.
use Rattle.std.specs.Prelude.{Bool, true, false, ◌&&◌, ◌||◌, List, [], ◌∷◌, ◌++◌, ℕ, zero, suc, max, min, eqb}
use Rattle.walk.specs.Numbers.{le?}

-- m = n; from lo to hi, both included
unfoldable pub eq? : ℕ → ℕ → Bool
eq? m n = eqb m n

abbrev pub within : ℕ → ℕ → ℕ → Bool
within lo hi x = le? lo x && le? x hi

-- every place below n passes; some place does
unfoldable pub all_to : ℕ → (ℕ → Bool) → Bool
all_to zero test = true
all_to (suc n) test = all_to n test && test n

unfoldable pub any_to : ℕ → (ℕ → Bool) → Bool
any_to zero test = false
any_to (suc n) test = any_to n test || test n

-- the largest of the numbers at the places below n, and of `least`; the smallest, and of `most`
unfoldable pub largest_to : ℕ → (ℕ → ℕ) → ℕ → ℕ
largest_to zero f least = least
largest_to (suc n) f least = max (largest_to n f least) (f n)

unfoldable pub smallest_to : ℕ → (ℕ → ℕ) → ℕ → ℕ
smallest_to zero f most = most
smallest_to (suc n) f most = min (smallest_to n f most) (f n)

-- the first k entries replaced, each by f of its place and itself; the rest as they are
unfoldable pub over_to : {A : Type 0} → ℕ → (ℕ → A → A) → List A → List A
over_to zero f xs = xs
over_to (suc k) f [] = []
over_to (suc k) f (x ∷ xs) = f 0 x ∷ over_to k (λ i. f (suc i)) xs

-- the lists g 0 .. g (n - 1), joined
unfoldable pub join_to : ℕ → (ℕ → List ℕ) → List ℕ
join_to zero g = []
join_to (suc n) g = join_to n g ++ g n

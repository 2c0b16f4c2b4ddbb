-- A list whose elements are those of another, each by f.
use mathlib.Core.Path.{◌≡◌, refl, ap₂}
use mathlib.Core.List.{List, [], ◌∷◌, map}
use Prim.Native.Nat.{ℕ, suc, ◌<◌}
use native.Mathlib.Omega.{arith}
use lib.ListN.{length, get_or}

pub mapped : {A B : Type 0} (f : A → B) (xs : List A) (ys : List B) → length ys ≡ length xs
    → ((i : ℕ) (d : A) (e : B) → i < length xs → get_or ys i e ≡ f (get_or xs i d)) → ys ≡ map f xs
mapped f [] [] l e = refl
mapped f [] (y ∷ ys) l e = absurd (omega (arith, l))
mapped f (x ∷ xs) [] l e = absurd (omega (arith, l))
mapped f (x ∷ xs) (y ∷ ys) l e = ap₂ (λ z zs. z ∷ zs) (e 0 x y (omega arith)) (mapped f xs ys (omega (arith, l)) (λ i d g k. e (suc i) d g (omega (arith, k))))

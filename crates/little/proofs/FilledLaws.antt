-- Tables that are filled up to a count (specs/Little, filled).
use mathlib.Core.Path.{◌≡◌, refl, ap, ◌∙◌}
use mathlib.Core.List.{List, [], ◌∷◌, ◌++◌}
use Prim.Native.Nat.{ℕ, zero, suc, ◌+◌, ◌*◌, ◌≤◌, ◌<◌}
use native.Mathlib.Numerals.{add-one}
use native.Mathlib.Omega.{arith}
use lib.ListN.{length, take, drop, replicate, set, get_or, length-replicate, length-set}
use Rattle.plan.specs.Places.{over_to}
use Rattle.plan.proofs.PlaceLists.{over-length, over-get, over_cong, over_put}
use Rattle.little.specs.Little.{field, column, filled}

-- what a loop has filled when it comes to place i, of `count` places to fill
module _ (count : ℕ) (f : ℕ → ℕ) (table₀ : List ℕ) where
  abbrev pub FilledTo : ℕ → List ℕ → Type 0
  FilledTo i table = (i ≤ count) × (length table ≡ length table₀) × (table ≡ filled i f table₀)

  pub fill_none : FilledTo 0 table₀
  unfolding filled over_to
  fill_none = (omega arith, refl, refl)

  pub fill_next : (i : ℕ) (table : List ℕ) → FilledTo i table → i < count → (v : ℕ) → v ≡ f i → FilledTo (i + 1) (set table i v)
  unfolding filled
  fill_next i table h l v e = (omega arith, length-set table i v ∙ h.1, rw (h.2, e, add-one i) (over_put i (λ k _. f k) table₀ 0))

  pub fill_all : (i : ℕ) (table : List ℕ) → FilledTo i table → count ≤ i → table ≡ filled count f table₀
  fill_all i table h l = let n : i ≡ count = omega arith in rw (← n) h.2

-- two tables, filled from entries of two numbers, at an offset and at each stride from there on: the second number stands `second` bytes behind the first
module _ (count m n at second stride : ℕ) (bytes xs₀ ys₀ : List ℕ) where
  abbrev pub BothTo : ℕ → List ℕ → List ℕ → Type 0
  BothTo i xs ys = FilledTo count (column m at stride bytes) xs₀ i xs × FilledTo count (column n (at + second) stride bytes) ys₀ i ys

  pub both_none : BothTo 0 xs₀ ys₀
  both_none = (fill_none count _ xs₀, fill_none count _ ys₀)

  pub both_next : (i : ℕ) (xs ys : List ℕ) → BothTo i xs ys → i < count → (v w : ℕ) → v ≡ field m (at + stride * i) bytes
      → w ≡ field n (at + stride * i + second) bytes → BothTo (i + 1) (set xs i v) (set ys i w)
  both_next i xs ys h l v w e f =
      let there : at + stride * i + second ≡ at + second + stride * i = omega arith in
      (fill_next count _ xs₀ i xs h.0 l v e, fill_next count _ ys₀ i ys h.1 l w (f ∙ ap (λ (k : ℕ). field n k bytes) there))

  pub both_all : (i : ℕ) (xs ys : List ℕ) → BothTo i xs ys → count ≤ i
      → (xs ≡ filled count (column m at stride bytes) xs₀) × (ys ≡ filled count (column n (at + second) stride bytes) ys₀)
  both_all i xs ys h l = (fill_all count _ xs₀ i xs h.0 l, fill_all count _ ys₀ i ys h.1 l)

-- only the counted places matter
pub filled_cong : (count : ℕ) (f g : ℕ → ℕ) (table : List ℕ) → ((i : ℕ) → i < count → f i ≡ g i) → filled count f table ≡ filled count g table
unfolding filled
filled_cong count f g table e = over_cong count _ _ table (λ i l _. e i l)

-- ---- a table of zeros, filled

module _ (places count : ℕ) (f : ℕ → ℕ) where
  pub filled-length : length (filled count f (replicate places 0)) ≡ places
  unfolding filled
  filled-length = over-length count _ (replicate places 0) ∙ length-replicate places 0

  pub filled-get : count ≤ places → (i : ℕ) → i < count → get_or (filled count f (replicate places 0)) i 0 ≡ f i
  unfolding filled
  filled-get h i l = over-get count _ (replicate places 0) i 0 l (rw length-replicate (omega arith))

pub filled_past : (places count : ℕ) (f : ℕ → ℕ) (i : ℕ) → count ≤ i → get_or (filled count f (replicate places 0)) i 0 ≡ 0
unfolding filled over_to
filled_past zero zero f i l = refl
filled_past zero (suc count) f i l = refl
filled_past (suc places) zero f zero l = refl
filled_past (suc places) zero f (suc i) l = filled_past places zero f i (omega arith)
filled_past (suc places) (suc count) f zero l = absurd (omega arith)
filled_past (suc places) (suc count) f (suc i) l = filled_past places count (λ k. f (suc k)) i (omega arith)

-- what stood in the filled places does not matter
pub filled-over : (count : ℕ) (f : ℕ → ℕ) (front front' rest : List ℕ) → length front ≡ count → length front' ≡ count
    → filled count f (front ++ rest) ≡ filled count f (front' ++ rest)
unfolding filled over_to
filled-over zero f [] [] rest e e' = refl
filled-over zero f (x ∷ xs) front' rest e e' = absurd (omega arith)
filled-over zero f [] (y ∷ ys) rest e e' = absurd (omega arith)
filled-over (suc count) f [] front' rest e e' = absurd (omega arith)
filled-over (suc count) f (x ∷ xs) [] rest e e' = absurd (omega arith)
filled-over (suc count) f (x ∷ xs) (y ∷ ys) rest e e' = ap (λ (zs : List ℕ). f 0 ∷ zs) (filled-over count (λ i. f (suc i)) xs ys rest (omega arith) (omega arith))

-- the filled places, whatever else stands in the table
pub filled-take : (count : ℕ) (f : ℕ → ℕ) (xs ys : List ℕ) → count ≤ length xs → count ≤ length ys
    → take count (filled count f xs) ≡ take count (filled count f ys)
unfolding filled over_to
filled-take zero f xs ys h k = refl
filled-take (suc count) f [] ys h k = absurd (omega arith)
filled-take (suc count) f (x ∷ xs) [] h k = absurd (omega arith)
filled-take (suc count) f (x ∷ xs) (y ∷ ys) h k = ap (λ (zs : List ℕ). f 0 ∷ zs) (filled-take count (λ i. f (suc i)) xs ys (omega arith) (omega arith))

-- the filled places alone, with the others behind them
pub filled_part : (count : ℕ) (f : ℕ → ℕ) (xs : List ℕ) → filled count f (take count xs) ++ drop count xs ≡ filled count f xs
unfolding filled over_to
filled_part zero f xs = refl
filled_part (suc count) f [] = refl
filled_part (suc count) f (x ∷ xs) = ap (λ (zs : List ℕ). f 0 ∷ zs) (filled_part count (λ i. f (suc i)) xs)

-- Laws of lists made place by place (specs/Places).
use mathlib.Core.Path.{◌≡◌, refl, sym, ap, ap₂, ◌∙◌}
use mathlib.Core.Bool.{Bool}
use mathlib.Core.List.{List, [], ◌∷◌}
use Prim.Native.Nat.{ℕ, zero, suc, ◌*◌, ◌≤◌, ◌<◌}
use native.Mathlib.Nat.{mul-zero, mul-suc}
use native.Mathlib.Numerals.{add-one}
use native.Mathlib.Omega.{arith}
use lib.ListN.{length, take, drop, set, get_or, replicate, length-append, length-take}
use lib.Seq.{get_or-take, length-take-le, take_all}
use denote.Ref.{Bor}
use Rattle.std.specs.Prelude.{Option, Some, None}
use Rattle.std.specs.Iterator.{Yields}
use Rattle.std.specs.Iterator.Adapters.{zip_first, zip_second}
use Rattle.std.specs.List.{list_all, list_any, zip}
use Rattle.std.specs.Slice.Iter.{iter_rest}
use Rattle.std.specs.declared.iter.Zip.{Zip}
use Rattle.std.proofs.Common.{Iter}
use Rattle.std.proofs.iter.Yields.{fronts}
use Rattle.std.proofs.lemmas.Iterator.{zips}
use Rattle.std.proofs.lemmas.List.Folds.{list_all_more, list_any_more}
use Rattle.std.proofs.lemmas.Slice.Zip.{zip_turn, zip_end, length-zip, get_or-zip}
use Rattle.plan.specs.Places.{all_to, any_to, over_to, join_to}
use Rattle.plan.proofs.PlaceLaws.{all_cong, any_cong}

module _ {A : Type 0} where
  pub over-length : (k : ℕ) (f : ℕ → A → A) (xs : List A) → length (over_to k f xs) ≡ length xs
  unfolding over_to
  over-length zero f xs = refl
  over-length (suc k) f [] = refl
  over-length (suc k) f (x ∷ xs) = ap suc (over-length k (λ i. f (suc i)) xs)

  pub over-get : (k : ℕ) (f : ℕ → A → A) (xs : List A) (i : ℕ) (d : A) → i < k → i < length xs → get_or (over_to k f xs) i d ≡ f i (get_or xs i d)
  unfolding over_to
  over-get zero f xs i d h g = absurd (omega arith)
  over-get (suc k) f [] i d h g = absurd (omega arith)
  over-get (suc k) f (x ∷ xs) zero d h g = refl
  over-get (suc k) f (x ∷ xs) (suc i) d h g = over-get k (λ i. f (suc i)) xs i d (omega arith) (omega arith)

  -- the entries past k stay
  pub over-drop : (k : ℕ) (f : ℕ → A → A) (xs : List A) → drop k (over_to k f xs) ≡ drop k xs
  unfolding over_to
  over-drop zero f xs = refl
  over-drop (suc k) f [] = refl
  over-drop (suc k) f (x ∷ xs) = over-drop k (λ i. f (suc i)) xs

  -- two rounds that agree at each place below k
  pub over_cong : (k : ℕ) (f g : ℕ → A → A) (xs : List A) → ((i : ℕ) → i < k → (x : A) → f i x ≡ g i x) → over_to k f xs ≡ over_to k g xs
  unfolding over_to
  over_cong zero f g xs e = refl
  over_cong (suc k) f g [] e = refl
  over_cong (suc k) f g (x ∷ xs) e = rw (e 0 (omega arith) x, over_cong k (λ i. f (suc i)) (λ i. g (suc i)) xs (λ i l. e (suc i) (omega arith)))

  -- two rounds in one
  pub over-over : (k : ℕ) (f g h : ℕ → A → A) (xs : List A) → ((i : ℕ) → i < k → (x : A) → f i (g i x) ≡ h i x) → over_to k f (over_to k g xs) ≡ over_to k h xs
  unfolding over_to
  over-over zero f g h xs e = refl
  over-over (suc k) f g h [] e = refl
  over-over (suc k) f g h (x ∷ xs) e =
      rw (e 0 (omega arith) x, over-over k (λ i. f (suc i)) (λ i. g (suc i)) (λ i. h (suc i)) xs (λ i m. e (suc i) (omega arith)))

  -- a round that changes nothing
  pub over_same : (k : ℕ) (f : ℕ → A → A) (n : ℕ) (c : A) → ((i : ℕ) (x : A) → f i x ≡ c) → over_to k f (replicate n c) ≡ replicate n c
  unfolding over_to
  over_same zero f n c e = refl
  over_same (suc k) f zero c e = refl
  over_same (suc k) f (suc n) c e = rw (e 0 c, over_same k (λ i. f (suc i)) n c (λ i. e (suc i)))

  -- place by place: the entry whose turn it is has not changed, and is put in its place
  pub over_now : (i : ℕ) (f : ℕ → A → A) (xs : List A) (d : A) → get_or (over_to i f xs) i d ≡ get_or xs i d
  unfolding over_to
  over_now zero f xs d = refl
  over_now (suc i) f [] d = refl
  over_now (suc i) f (x ∷ xs) d = over_now i (λ i. f (suc i)) xs d

  pub over_put : (i : ℕ) (f : ℕ → A → A) (xs : List A) (d : A) → set (over_to i f xs) i (f i (get_or xs i d)) ≡ over_to (suc i) f xs
  unfolding over_to
  over_put zero f [] d = refl
  over_put zero f (x ∷ xs) d = refl
  over_put (suc i) f [] d = refl
  over_put (suc i) f (x ∷ xs) d = rw (over_put i (λ i. f (suc i)) xs d)

-- ---- lists joined

pub join_cong : (n : ℕ) (f g : ℕ → List ℕ) → ((i : ℕ) → i < n → f i ≡ g i) → join_to n f ≡ join_to n g
unfolding join_to
join_cong zero f g e = refl
join_cong (suc n) f g e = rw (join_cong n f g (λ i l. e i (omega arith)), e n (omega arith))

module _ (g : ℕ → List ℕ) where
  pub join_length : (size n : ℕ) → ((i : ℕ) → i < n → length (g i) ≡ size) → length (join_to n g) ≡ size * n
  unfolding join_to
  join_length size zero e = sym (mul-zero size)
  join_length size (suc n) e =
      omega (arith, length-append (join_to n g) (g n), join_length size n (λ i l. e i (omega arith)), e n (omega arith), mul-suc size n)

-- ---- the first n entries of a list: what stands among them, and tests (`all`, `any` and `contains` in code)

module _ {A : Type 0} (xs : List A) (n : ℕ) (d : A) {ts : List A} (e : ts ≡ take n xs) where
  pub taken_at : (i : ℕ) → i < length ts → (i < n) × (get_or ts i d ≡ get_or xs i d)
  taken_at i h =
      let l : i < n = omega (arith, ap length e, length-take n xs) in
      (l, ap (λ ys. get_or ys i d) e ∙ get_or-take n xs i d l)

  pub taken_all : n ≤ length xs → length ts ≡ n
  taken_all h = ap length e ∙ length-take-le n xs h

module _ {A : Type 0} (test : A → Bool) (xs : List A) (d : A) where
  pub all_taken : (n : ℕ) → n ≤ length xs → list_all test (take n xs) ≡ all_to n (λ i. test (get_or xs i d))
  unfolding all_to
  all_taken zero h = refl
  all_taken (suc n) h = rw (← add-one n, list_all_more test xs n d (omega arith), all_taken n (omega arith))

  pub any_taken : (n : ℕ) → n ≤ length xs → list_any test (take n xs) ≡ any_to n (λ i. test (get_or xs i d))
  unfolding any_to
  any_taken zero h = refl
  any_taken (suc n) h = rw (← add-one n, list_any_more test xs n d (omega arith), any_taken n (omega arith))

-- .. of two lists, side by side (`zip` in code)
module _ (test : ℕ × ℕ → Bool) (xs ys : List ℕ) (n : ℕ) (h : n ≤ length xs) (k : n ≤ length ys) where
  abbrev pairs : List (ℕ × ℕ)
  pairs = zip (take n xs) (take n ys)

  pairs_long : length pairs ≡ n
  pairs_long = omega (arith, length-zip (take n xs) (take n ys), length-take-le n xs h, length-take-le n ys k)

  pair_at : (i : ℕ) → i < n → get_or pairs i (0, 0) ≡ (get_or xs i 0, get_or ys i 0)
  pair_at i l =
      get_or-zip (take n xs) (take n ys) i (0, 0) (omega (arith, length-take-le n xs h)) (omega (arith, length-take-le n ys k))
      ∙ ap₂ (λ x y. (x, y)) (get_or-take n xs i 0 l) (get_or-take n ys i 0 l)

  pub all_paired : list_all test pairs ≡ all_to n (λ i. test (get_or xs i 0, get_or ys i 0))
  all_paired =
      rw (← take_all n pairs (omega (arith, pairs_long)))
      (all_taken test pairs (0, 0) n (omega (arith, pairs_long)) ∙ all_cong n _ _ (λ i l. ap test (pair_at i l)))

  pub any_paired : list_any test pairs ≡ any_to n (λ i. test (get_or xs i 0, get_or ys i 0))
  any_paired =
      rw (← take_all n pairs (omega (arith, pairs_long)))
      (any_taken test pairs (0, 0) n (omega (arith, pairs_long)) ∙ any_cong n _ _ (λ i l. ap test (pair_at i l)))

-- ---- a `for` over a `zip` of the first n entries of two lists, which has yielded ys and comes to r

module _ (ls rs : List ℕ) (n : ℕ) (ys : List (Bor ℕ × Bor ℕ)) (s t u : Zip (Iter ℕ) (Iter ℕ)) {r : Option (Bor ℕ × Bor ℕ)}
    (first : iter_rest (zip_first s) ≡ take n ls) (second : iter_rest (zip_second s) ≡ take n rs)
    (came : Yields (zips fronts fronts) s ys t) (next : zips fronts fronts t r u) where
  -- the pair whose turn it is
  pub pair_here : {p : Bor ℕ × Bor ℕ} → r ≡ Some p
      → (length ys < n) × (p.0.now ≡ get_or ls (length ys) 0) × (p.1.now ≡ get_or rs (length ys) 0)
  pair_here {p} is =
      let z = zip_turn (take n ls) (take n rs) ys s t u r first second came p is next in
      let l : length ys < n = omega (arith, z.0, length-take n ls) in
      (l, z.2 0 ∙ get_or-take n ls (length ys) 0 l, z.3 0 ∙ get_or-take n rs (length ys) 0 l)

  pub pairs_end : n ≤ length ls → n ≤ length rs → r ≡ None → length ys ≡ n
  pairs_end h k is =
      let z = zip_end (take n ls) (take n rs) ys s t u r first second came is next in
      omega (arith, z, length-take-le n ls h, length-take-le n rs k)

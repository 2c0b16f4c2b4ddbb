-- Among all orders each result is first equally often; and a test of the first l results passes in the same share of the orders of more
-- results. So the first result is among the j largest of the first l in exactly the share j / l.
use mathlib.Core.Path.{◌≡◌, refl, sym, ap, ◌∙◌}
use mathlib.Core.Bool.{Bool}
use mathlib.Core.List.{List, [], ◌∷◌}
use Prim.Native.Nat.{ℕ, zero, suc, ◌+◌, ◌*◌, ◌≤◌}
use native.Mathlib.Omega.{arith}
use lib.ListN.{length, get_or, take, get_or-append}
use lib.Seq.{take-append-le, take_all}
use Rattle.counting.specs.Tests.{le?, one_if, how_many}
use Rattle.counting.specs.Orders.{Different, picks, orders_of, factorial}
use Rattle.counting.proofs.Picks.{sum_over, sum-mul, sum-add, many_orders, orders_cong, picks_cong, picks_const, picks_last, others_length, others_differ, has_length}
use Rattle.counting.proofs.Ranks.{ranks}

abbrev pub first : List ℕ → ℕ
first o = get_or o 0 0

factorial-zero : factorial 0 ≡ 1
unfolding factorial
factorial-zero = refl

factorial-suc : (n : ℕ) → factorial (suc n) ≡ suc n * factorial n
unfolding factorial
factorial-suc n = refl

-- ---- each result is first equally often

-- over all picks, what passes among the others
others : (q : ℕ → Bool) (n : ℕ) (xs : List ℕ) → length xs ≡ suc n → sum_over (λ p. how_many q p.others) (picks xs) ≡ n * how_many q xs
others q n xs d =
    let whole : sum_over (λ p. one_if (q p.last) + how_many q p.others) (picks xs) ≡ length xs * how_many q xs =
    picks_cong xs _ (λ p. how_many q xs) (λ p k. k.pass q) ∙ picks_const xs (how_many q xs) in
    let m : length xs * how_many q xs ≡ suc n * how_many q xs = ap (λ (k : ℕ). k * how_many q xs) d in
    omega (arith, sum-add (λ p. one_if (q p.last)) (λ p. how_many q p.others) (picks xs), picks_last xs q)

firsts : (q : ℕ → Bool) (n : ℕ) (xs : List ℕ) → length xs ≡ suc n → how_many (λ o. q (first o)) (orders_of (suc n) xs) ≡ how_many q xs * factorial n
firsts q zero [] d = absurd (omega arith)
firsts q zero (x ∷ []) d = rw (many_orders (λ o. q (first o)) 0 (x ∷ []), factorial-zero) (omega arith)
firsts q zero (x ∷ y ∷ xs) d = absurd (omega arith)
firsts q (suc n) xs d =
    many_orders (λ o. q (first o)) (suc n) xs
    ∙ picks_cong xs _ (λ p. how_many q p.others * factorial n) (λ p k.
    let l : length p.others ≡ suc n = omega (arith, others_length p xs k) in
    orders_cong (suc n) p.others l _ (λ o. q (first o)) (λ o m. ap q (get_or-append o (p.last ∷ []) 0 0 (omega (arith, has_length o p.others m))))
    ∙ firsts q n p.others l)
    ∙ sum-mul (λ p. how_many q p.others) (factorial n) (picks xs)
    ∙ rw (others q (suc n) xs d, factorial-suc n) (omega arith)

-- ---- among the first l results

-- at most j of them are at least as large as the first, itself among them
abbrev pub among : ℕ → ℕ → List ℕ → Bool
among j l o = le? (how_many (le? (first o)) (take l o)) j

module _ (j m : ℕ) (small : j ≤ suc m) where
  -- of m + 1 results
  at_end : (xs : List ℕ) → Different xs → length xs ≡ suc m → how_many (among j (suc m)) (orders_of (suc m) xs) * suc m ≡ j * factorial (suc m)
  at_end xs d e =
      let q : ℕ → Bool = λ x. le? (how_many (le? x) xs) j in
      let same : how_many (among j (suc m)) (orders_of (suc m) xs) ≡ how_many (λ o. q (first o)) (orders_of (suc m) xs) =
      orders_cong (suc m) xs e _ _ (λ o k. rw (take_all (suc m) o (omega (arith, has_length o xs k)), k.pass (le? (first o)))) in
      let r : how_many q xs ≡ j = ranks xs d j ∙ omega arith in
      rw (same, firsts q m xs e, r, factorial-suc m) (omega arith)

  -- one more at the end changes nothing among the first m + 1
  one_more : (n : ℕ) (xs : List ℕ) → suc m ≤ n → length xs ≡ suc n
      → ((ys : List ℕ) → Different ys → length ys ≡ n → how_many (among j (suc m)) (orders_of n ys) * suc m ≡ j * factorial n)
      → Different xs → how_many (among j (suc m)) (orders_of (suc n) xs) * suc m ≡ j * factorial (suc n)
  one_more n xs b e f d =
      ap (λ (k : ℕ). k * suc m) (many_orders (among j (suc m)) n xs)
      ∙ sym (sum-mul _ (suc m) (picks xs))
      ∙ picks_cong xs _ (λ p. j * factorial n) (λ p k.
      let l : length p.others ≡ n = omega (arith, others_length p xs k) in
      ap (λ (i : ℕ). i * suc m) (orders_cong n p.others l _ (among j (suc m)) (λ o c.
      let g : length o ≡ n = has_length o p.others c ∙ l in
      rw (take-append-le (suc m) o (p.last ∷ []) (omega arith), get_or-append o (p.last ∷ []) 0 0 (omega arith))))
      ∙ f p.others (others_differ p xs k d) l)
      ∙ picks_const xs (j * factorial n)
      ∙ rw (e, factorial-suc n) (omega arith)

  pub in_all : (k n : ℕ) → n ≡ k + suc m → (xs : List ℕ) → Different xs → length xs ≡ n
      → how_many (among j (suc m)) (orders_of n xs) * suc m ≡ j * factorial n
  in_all zero n z xs d e = let y : n ≡ suc m = omega arith in rw y (at_end xs d (e ∙ y))
  in_all (suc k) zero z xs d e = absurd (omega arith)
  in_all (suc k) (suc n) z xs d e = one_more n xs (omega arith) e (in_all k n (omega arith)) d

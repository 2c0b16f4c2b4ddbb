-- How many of a list pass a test, sums over all picks, and what holds of every listed order.
use mathlib.Core.Path.{◌≡◌, refl, sym, ap, ◌∙◌}
use mathlib.Core.Bool.{Bool, true, false}
use mathlib.Core.List.{List, [], ◌∷◌, ◌++◌, map, flat_map}
use Prim.Native.Nat.{ℕ, zero, suc, ◌+◌, ◌*◌}
use native.Mathlib.Omega.{arith}
use lib.ListN.{length}
use Rattle.counting.specs.Tests.{eq?, one_if, how_many}
use Rattle.counting.specs.Orders.{Different, Pick, behind, picks, orders_of, factorial}

-- ---- how many pass

module _ {A : Type 0} where
  pub many_append : (p : A → Bool) (xs ys : List A) → how_many p (xs ++ ys) ≡ how_many p xs + how_many p ys
  many_append p [] ys = omega arith
  many_append p (x ∷ xs) ys = rw (many_append p xs ys) (omega arith)

  pub many_cong : (p q : A → Bool) → ((x : A) → p x ≡ q x) → (xs : List A) → how_many p xs ≡ how_many q xs
  many_cong p q e [] = refl
  many_cong p q e (x ∷ xs) = rw (e x, many_cong p q e xs)

  pub many_all : (xs : List A) → how_many (λ x. true) xs ≡ length xs
  many_all [] = refl
  many_all (x ∷ xs) = rw (many_all xs) (omega arith)

  pub many_none : (xs : List A) → how_many (λ x. false) xs ≡ 0
  many_none [] = refl
  many_none (x ∷ xs) = rw (many_none xs)

pub many_map : {A B : Type 0} (p : B → Bool) (f : A → B) (xs : List A) → how_many p (map f xs) ≡ how_many (λ x. p (f x)) xs
many_map p f [] = refl
many_map p f (x ∷ xs) = rw (many_map p f xs)

-- ---- sums over picks

abbrev pub sum_over : (Pick → ℕ) → List Pick → ℕ
sum_over f [] = 0
sum_over f (p ∷ ps) = f p + sum_over f ps

sum-map : (f : Pick → ℕ) (g : Pick → Pick) (ps : List Pick) → sum_over f (map g ps) ≡ sum_over (λ p. f (g p)) ps
sum-map f g [] = refl
sum-map f g (p ∷ ps) = rw (sum-map f g ps)

pub sum-add : (f g : Pick → ℕ) (ps : List Pick) → sum_over (λ p. f p + g p) ps ≡ sum_over f ps + sum_over g ps
sum-add f g [] = refl
sum-add f g (p ∷ ps) = rw (sum-add f g ps) (omega arith)

pub sum-mul : (f : Pick → ℕ) (k : ℕ) (ps : List Pick) → sum_over (λ p. f p * k) ps ≡ sum_over f ps * k
sum-mul f k [] = omega arith
sum-mul f k (p ∷ ps) = rw (sum-mul f k ps) (omega arith)

many_each : (q : List ℕ → Bool) (f : Pick → List (List ℕ)) (ps : List Pick) → how_many q (flat_map f ps) ≡ sum_over (λ p. how_many q (f p)) ps
unfolding flat_map
many_each q f [] = refl
many_each q f (p ∷ ps) = rw (many_append q (f p) (flat_map f ps), many_each q f ps)

-- a pick parts the list: whatever the test, what passes in xs is the one picked or among the others
pub record Parts (p : Pick) (xs : List ℕ) : Type 0 where
  pub pass : (test : ℕ → Bool) → one_if (test p.last) + how_many test p.others ≡ how_many test xs

pub picks_cong : (xs : List ℕ) (f g : Pick → ℕ) → ((p : Pick) → Parts p xs → f p ≡ g p) → sum_over f (picks xs) ≡ sum_over g (picks xs)
picks_cong [] f g e = refl
picks_cong (x ∷ xs) f g e =
    rw (
      e (record { last = x; others = xs }) (record { pass = λ t. refl }),
      sum-map f (behind x) (picks xs),
      sum-map g (behind x) (picks xs),
      picks_cong xs (λ p. f (behind x p)) (λ p. g (behind x p)) (λ p k. e (behind x p) (record { pass = λ t. omega (arith, k.pass t) })),
    )

pub picks_const : (xs : List ℕ) (k : ℕ) → sum_over (λ p. k) (picks xs) ≡ length xs * k
picks_const [] k = omega arith
picks_const (x ∷ xs) k = rw (sum-map (λ p. k) (behind x) (picks xs), picks_const xs k) (omega arith)

-- over all picks, a test of the one picked counts what passes in the list
pub picks_last : (xs : List ℕ) (test : ℕ → Bool) → sum_over (λ p. one_if (test p.last)) (picks xs) ≡ how_many test xs
picks_last [] test = refl
picks_last (x ∷ xs) test = rw (sum-map (λ p. one_if (test p.last)) (behind x) (picks xs), picks_last xs test)

pub others_length : (p : Pick) (xs : List ℕ) → Parts p xs → suc (length p.others) ≡ length xs
others_length p xs k = rw (← many_all xs, ← many_all p.others) (omega (arith, k.pass (λ x. true)))

pub others_differ : (p : Pick) (xs : List ℕ) → Parts p xs → Different xs → Different p.others
others_differ p xs k d = record { once = λ x. omega (arith, k.pass (eq? x), d.once x) }

-- ---- the orders of k + 1 results by the last one

pub many_orders : (q : List ℕ → Bool) (k : ℕ) (xs : List ℕ)
    → how_many q (orders_of (suc k) xs) ≡ sum_over (λ p. how_many (λ o. q (o ++ (p.last ∷ []))) (orders_of k p.others)) (picks xs)
many_orders q k xs =
    many_each q (λ p. map (λ o. o ++ (p.last ∷ [])) (orders_of k p.others)) (picks xs)
    ∙ picks_cong xs _ _ (λ p c. many_map q (λ o. o ++ (p.last ∷ [])) (orders_of k p.others))

-- o has the results of xs: whatever the test, as many pass
pub record Has (o xs : List ℕ) : Type 0 where
  pub pass : (test : ℕ → Bool) → how_many test o ≡ how_many test xs

pub has_length : (o xs : List ℕ) → Has o xs → length o ≡ length xs
has_length o xs k = sym (many_all o) ∙ k.pass (λ x. true) ∙ many_all xs

has_end : (o : List ℕ) (p : Pick) (xs : List ℕ) → Has o p.others → Parts p xs → Has (o ++ (p.last ∷ [])) xs
has_end o p xs k l = record { pass = λ t. omega (arith, many_append t o (p.last ∷ []), k.pass t, l.pass t) }

-- two tests that agree on every list with the results of xs pass as many of its orders
pub orders_cong : (k : ℕ) (xs : List ℕ) → length xs ≡ k → (q r : List ℕ → Bool) → ((o : List ℕ) → Has o xs → q o ≡ r o)
    → how_many q (orders_of k xs) ≡ how_many r (orders_of k xs)
orders_cong zero [] d q r e = rw (e [] (record { pass = λ t. refl }))
orders_cong zero (x ∷ xs) d q r e = absurd (omega arith)
orders_cong (suc k) xs d q r e =
    many_orders q k xs
    ∙ picks_cong xs _ _ (λ p c. orders_cong k p.others (omega (arith, others_length p xs c)) _ _ (λ o l. e (o ++ (p.last ∷ [])) (has_end o p xs l c)))
    ∙ sym (many_orders r k xs)

-- there are k! of them
pub orders-number : (k : ℕ) (xs : List ℕ) → length xs ≡ k → length (orders_of k xs) ≡ factorial k
unfolding factorial
orders-number zero xs d = refl
orders-number (suc k) xs d =
    sym (many_all (orders_of (suc k) xs))
    ∙ many_orders (λ o. true) k xs
    ∙ picks_cong xs _ (λ p. factorial k) (λ p c. many_all (orders_of k p.others) ∙ orders-number k p.others (omega (arith, others_length p xs c)))
    ∙ picks_const xs (factorial k)
    ∙ ap (λ (m : ℕ). m * factorial k) d

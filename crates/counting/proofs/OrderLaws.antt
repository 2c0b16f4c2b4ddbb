-- The listed orders are all orders, each once.
use mathlib.Core.Path.{◌≡◌, refl, ap, ap₂, ◌∙◌}
use mathlib.Core.Bool.{Bool, true, false, ◌&&◌, false≢true}
use mathlib.Core.List.{List, [], ◌∷◌, ◌++◌}
use Prim.Native.Nat.{ℕ, zero, suc, ◌+◌, ◌≤◌, ◌<◌}
use native.Mathlib.Omega.{arith}
use lib.ListN.{length}
use Rattle.counting.specs.Tests.{eq?, same?, one_if, how_many}
use Rattle.counting.specs.Orders.{Different, down_from, OrderOf, Pick, orders_of, orders, AllOrders}
use Rattle.counting.proofs.TestLaws.{Eq?, same, other, eq_view, eq_holds, eq_fails}
use Rattle.counting.proofs.Picks.{Parts, Has, many_orders, many_append, many_cong, many_none, orders_cong, orders-number, picks_cong, picks_last, others_length, others_differ, has_length}

same_eq : (a b : List ℕ) → same? a b ≡ true → a ≡ b
same_eq [] [] e = refl
same_eq [] (y ∷ b) e = absurd (false≢true e)
same_eq (x ∷ a) [] e = absurd (false≢true e)
same_eq (x ∷ a) (y ∷ b) e = go (eq? x y) (eq_view x y) (same_eq a b) e
  where
    go : (c : Bool) → Eq? x y c → (same? a b ≡ true → a ≡ b) → (c && same? a b) ≡ true → ◌≡◌ {A = List ℕ} (x ∷ a) (y ∷ b)
    go true (same p) rest f = ap₂ {C = List ℕ} (λ u v. u ∷ v) p (rest f)
    go false v rest f = absurd (false≢true f)

and_none : (a b : Bool) → (a && false) ≡ (b && false)
and_none true true = refl
and_none true false = refl
and_none false true = refl
and_none false false = refl

and_swap : (a b c : Bool) → (a && (b && c)) ≡ (b && (a && c))
and_swap true b c = refl
and_swap false true c = refl
and_swap false false c = refl

-- two lists with an end are the same where the ends and the rests are
same_end : (o p : List ℕ) (a b : ℕ) → same? (o ++ (a ∷ [])) (p ++ (b ∷ [])) ≡ (eq? a b && same? o p)
same_end [] [] a b = refl
same_end [] (y ∷ []) a b = and_none (eq? a y) (eq? a b)
same_end [] (y ∷ z ∷ p) a b = and_none (eq? a y) (eq? a b)
same_end (x ∷ []) [] a b = and_none (eq? x b) (eq? a b)
same_end (x ∷ z ∷ o) [] a b = and_none (eq? x b) (eq? a b)
same_end (x ∷ o) (y ∷ p) a b = ap (λ (c : Bool). eq? x y && c) (same_end o p a b) ∙ and_swap (eq? x y) (eq? a b) (same? o p)

-- a list that is not empty has an end
record End (o : List ℕ) : Type 0 where
  front : List ℕ
  last : ℕ
  is : o ≡ front ++ (last ∷ [])

end_of : (x : ℕ) (o : List ℕ) → End (x ∷ o)
end_of x [] = record { front = []; last = x; is = refl }
end_of x (y ∷ o) = let r = end_of y o in record { front = x ∷ r.front; last = r.last; is = ap {B = List ℕ} (λ l. x ∷ l) r.is }

-- ---- every order is listed once

Once : ℕ → Type 0
Once k = (xs : List ℕ) → length xs ≡ k → Different xs → (o : List ℕ) → OrderOf o xs → how_many (same? o) (orders_of k xs) ≡ 1

-- of the orders that end with a pick, the list that ends with a is one exactly where a was picked
one_end : (a : ℕ) (f : List ℕ) (xs : List ℕ) (k : ℕ) (p : Pick) → Once k → length xs ≡ suc k → Different xs → OrderOf (f ++ (a ∷ [])) xs → Parts p xs
    → how_many (λ o. same? (f ++ (a ∷ [])) (o ++ (p.last ∷ []))) (orders_of k p.others) ≡ one_if (eq? a p.last)
unfolding Once
one_end a f xs k p ih e d order parts =
    many_cong _ _ (λ o. same_end f o a p.last) (orders_of k p.others)
    ∙ go (eq? a p.last) (eq_view a p.last)
  where
    go : (b : Bool) → Eq? a p.last b → how_many (λ o. b && same? f o) (orders_of k p.others) ≡ one_if b
    go true (same q) =
        ih p.others (omega (arith, others_length p xs parts)) (others_differ p xs parts d) f
        (record {
          often = λ x.
              let z : one_if (eq? x a) ≡ one_if (eq? x p.last) = ap (λ (w : ℕ). one_if (eq? x w)) q in
              omega (arith, order.often x, many_append (eq? x) f (a ∷ []), parts.pass (eq? x));
        })
    go false v = many_none (orders_of k p.others)

once_end : (k : ℕ) → Once k → (xs : List ℕ) → length xs ≡ suc k → Different xs → (f : List ℕ) (a : ℕ) → OrderOf (f ++ (a ∷ [])) xs
    → how_many (same? (f ++ (a ∷ []))) (orders_of (suc k) xs) ≡ 1
once_end k ih xs e d f a order =
    many_orders (same? (f ++ (a ∷ []))) k xs
    ∙ picks_cong xs _ (λ p. one_if (eq? a p.last)) (λ p l. one_end a f xs k p ih e d order l)
    ∙ picks_last xs (eq? a)
    ∙ omega (arith, d.once a, order.often a, many_append (eq? a) f (a ∷ []), ap one_if (eq_holds a a refl))

once : (k : ℕ) → Once k
unfolding Once
once zero [] e d [] order = refl
once zero [] e d (x ∷ o) order = absurd (omega (arith, order.often x, ap one_if (eq_holds x x refl)))
once zero (y ∷ xs) e d o order = absurd (omega arith)
once (suc k) [] e d o order = absurd (omega arith)
once (suc k) (y ∷ xs) e d [] order = absurd (omega (arith, order.often y, ap one_if (eq_holds y y refl)))
once (suc k) (y ∷ xs) e d (x ∷ o) order =
    let r = end_of x o in
    rw r.is (once_end k (once k) (y ∷ xs) e d r.front r.last (rw r.is at order))

-- ---- no other list is

-- a list that is none of those with the results of xs is not listed
none_same : (xs o : List ℕ) → ((p : List ℕ) → Has p xs → ¬ (o ≡ p)) → how_many (same? o) (orders_of (length xs) xs) ≡ 0
none_same xs o differ =
    orders_cong (length xs) xs refl (same? o) (λ p. false) (λ p has. go p has (same? o p) refl)
    ∙ many_none (orders_of (length xs) xs)
  where
    go : (p : List ℕ) → Has p xs → (b : Bool) → same? o p ≡ b → b ≡ false
    go p has true e = absurd (differ p has (same_eq o p e))
    go p has false e = refl

pub all_orders : (xs : List ℕ) → Different xs → AllOrders xs
unfolding orders Once
all_orders xs d = record {
  number = orders-number (length xs) xs refl;
  every_once = once (length xs) xs refl d;
  no_other = λ o not-order. none_same xs o (λ p has e. not-order (record { often = λ x. ap (how_many (eq? x)) e ∙ has.pass (eq? x) }));
}

-- an order has as many results
pub order_length : (xs o : List ℕ) → Different xs → OrderOf o xs → length o ≡ length xs
unfolding Once
order_length xs o d order = go (eq? (length o) (length xs)) (eq_view (length o) (length xs))
  where
    go : (b : Bool) → Eq? (length o) (length xs) b → length o ≡ length xs
    go true (same e) = e
    go false (other f) =
        absurd (omega (arith, once (length xs) xs refl d o order, none_same xs o (λ p has e. f (ap length e ∙ has_length p xs has))))

-- ---- n different results

none_above : (n x : ℕ) → n < x → how_many (eq? x) (down_from n) ≡ 0
none_above zero x h = refl
none_above (suc n) x h = rw (eq_fails x (suc n) (λ e. omega arith), none_above n x (omega arith))

pub down_differ : (n : ℕ) → Different (down_from n)
down_differ zero = record { once = λ x. omega arith }
down_differ (suc n) = record { once = λ x. go x (eq? x (suc n)) (eq_view x (suc n)) ((down_differ n).once x) }
  where
    go : (x : ℕ) (b : Bool) → Eq? x (suc n) b → how_many (eq? x) (down_from n) ≤ 1 → one_if b + how_many (eq? x) (down_from n) ≤ 1
    go x true (same e) r = omega (arith, none_above n x (omega arith))
    go x false v r = omega arith

pub down_length : (n : ℕ) → length (down_from n) ≡ n
down_length zero = refl
down_length (suc n) = omega (arith, down_length n)

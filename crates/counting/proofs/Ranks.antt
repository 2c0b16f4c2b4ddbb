-- Of different results, exactly j have at most j that are at least as large, themselves among them.
use mathlib.Core.Path.{◌≡◌, refl, sym, ap, ◌∙◌}
use mathlib.Core.Bool.{Bool, true, false, ◌&&◌, and-true, and-false}
use mathlib.Core.List.{List, [], ◌∷◌}
use Prim.Native.Nat.{ℕ, zero, suc, ◌+◌, ◌≤◌, min}
use native.Mathlib.Nat.{zero-add, suc-add, add-suc}
use native.Mathlib.Omega.{arith}
use lib.ListN.{length}
use Rattle.counting.specs.Tests.{le?, eq?, one_if, how_many}
use Rattle.counting.specs.Orders.{Different}
use Rattle.counting.proofs.TestLaws.{Le?, le, gt, le_view, Eq?, same, other, eq_view, le_holds, le_fails}
use Rattle.counting.proofs.Picks.{many_cong, many_all, many_none}

-- at least v: v itself, or at least v + 1; with any further test t
split_one : (t : ℕ → Bool) (v x : ℕ) → one_if (le? v x && t x) ≡ one_if (eq? v x && t v) + one_if (le? (suc v) x && t x)
split_one t v x = go (le? v x) (eq? v x) (le? (suc v) x) (le_view v x) (eq_view v x) (le_view (suc v) x)
  where
    go : (a b c : Bool) → Le? v x a → Eq? v x b → Le? (suc v) x c → one_if (a && t x) ≡ one_if (b && t v) + one_if (c && t x)
    go true true true (le p) (same q) (le r) = absurd (omega arith)
    go true true false (le p) (same q) (gt r) = rw q (omega arith)
    go true false true (le p) (other q) (le r) = omega arith
    go true false false (le p) (other q) (gt r) = absurd (omega arith)
    go false true true (gt p) (same q) (le r) = absurd (omega arith)
    go false true false (gt p) (same q) (gt r) = absurd (omega arith)
    go false false true (gt p) (other q) (le r) = absurd (omega arith)
    go false false false (gt p) (other q) (gt r) = omega arith

split : (t : ℕ → Bool) (v : ℕ) (xs : List ℕ) → how_many (λ x. le? v x && t x) xs ≡ how_many (λ x. eq? v x && t v) xs + how_many (λ x. le? (suc v) x && t x) xs
split t v [] = refl
split t v (x ∷ xs) = omega (arith, split_one t v x, split t v xs)

at_most : (p t : ℕ → Bool) (xs : List ℕ) → how_many (λ x. p x && t x) xs ≤ how_many p xs
at_most p t [] = omega arith
at_most p t (x ∷ xs) = go (p x) (t x) (at_most p t xs)
  where
    go : (a b : Bool) → how_many (λ x. p x && t x) xs ≤ how_many p xs → one_if (a && b) + how_many (λ x. p x && t x) xs ≤ one_if a + how_many p xs
    go true true r = omega arith
    go true false r = omega arith
    go false b r = omega arith

-- a number above every result
top : List ℕ → ℕ
top [] = 0
top (x ∷ xs) = suc x + top xs

top_above : (xs : List ℕ) (w : ℕ) → top xs ≤ w → how_many (le? w) xs ≡ 0
unfolding top
top_above [] w h = refl
top_above (x ∷ xs) w h = rw (le_fails w x (omega arith), top_above xs w (omega arith))

module _ (xs : List ℕ) (d : Different xs) (h : ℕ) where
  above : ℕ → ℕ
  above v = how_many (le? v) xs

  few : ℕ → Bool
  few x = le? (above x) h

  few_test : (x : ℕ) → Le? (above x) h (few x)
  unfolding few
  few_test x = le_view (above x) h

  above_split : (v : ℕ) → above v ≡ how_many (eq? v) xs + above (suc v)
  unfolding above
  above_split v = simp and-true at (split (λ x. true) v xs)

  -- the results from v on that have few at least as large
  those : ℕ → ℕ
  those v = how_many (λ x. le? v x && few x) xs

  those_split : (v : ℕ) → those v ≡ how_many (λ x. eq? v x && few v) xs + those (suc v)
  unfolding those
  those_split v = split few v xs

  climb_one : (v : ℕ) → those (suc v) ≡ min h (above (suc v)) → those v ≡ min h (above v)
  climb_one v e = rw (those_split v) (go (few v) (few_test v))
    where
      go : (b : Bool) → Le? (above v) h b → how_many (λ x. eq? v x && b) xs + those (suc v) ≡ min h (above v)
      go true (le p) = rw (many_cong (λ x. eq? v x && true) (eq? v) (λ x. and-true (eq? v x)) xs) (omega (arith, above_split v, d.once v))
      go false (gt p) = rw (many_cong (λ x. eq? v x && false) (λ x. false) (λ x. and-false (eq? v x)) xs, many_none xs) (omega (arith, above_split v, d.once v))

  those_above : (v : ℕ) → those v ≤ above v
  unfolding those above
  those_above v = at_most (le? v) few xs

  climb : (k v : ℕ) → above (k + v) ≡ 0 → those v ≡ min h (above v)
  climb zero v e =
      let z : above v ≡ 0 = rw zero-add at e in
      omega (arith, those_above v)
  climb (suc k) v e = climb_one v (climb k (suc v) (rw (add-suc k v, ← suc-add k v) e))

  pub ranks : how_many (λ x. le? (how_many (le? x) xs) h) xs ≡ min h (length xs)
  unfolding few above those
  ranks =
      many_cong _ _ (λ x. ap (λ (b : Bool). b && few x) (sym (le_holds 0 x (omega arith)))) xs
      ∙ climb (top xs) 0 (top_above xs (top xs + 0) (omega arith))
      ∙ ap (λ (k : ℕ). min h k) (many_cong _ _ (λ x. le_holds 0 x (omega arith)) xs ∙ many_all xs)

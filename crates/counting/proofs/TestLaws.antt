-- Laws of the tests of specs/Tests.
use mathlib.Core.Path.{◌≡◌, refl, sym}
use mathlib.Core.Bool.{Bool, true, false, ◌&&◌, false≢true}
use Prim.Native.Nat.{ℕ, suc, ◌≤◌, ◌<◌, suc-le-suc}
use native.Mathlib.Omega.{arith}
use lib.Dec.{leb, eqb}
use borrow.Author.Tests.{leb-true, leb-false, le-leb, lt-leb, eqb-true, eqb-false, eq-eqb, ne_eqb}
use Rattle.counting.specs.Tests.{le?, lt?, eq?, one_if}

-- which way a test goes, with what it says
pub data Le? (m n : ℕ) : Bool → Type 0 where
  le : m ≤ n → Le? m n true
  gt : n < m → Le? m n false

pub le_view : (m n : ℕ) → Le? m n (le? m n)
unfolding le?
le_view m n = go (leb m n) refl
  where
    go : (b : Bool) → leb m n ≡ b → Le? m n b
    go true e = le (leb-true m n e)
    go false e = gt (leb-false m n e)

pub data Eq? (m n : ℕ) : Bool → Type 0 where
  same : m ≡ n → Eq? m n true
  other : ¬ (m ≡ n) → Eq? m n false

pub eq_view : (m n : ℕ) → Eq? m n (eq? m n)
unfolding eq?
eq_view m n = go (eqb m n) refl
  where
    go : (b : Bool) → eqb m n ≡ b → Eq? m n b
    go true e = same (eqb-true m n e)
    go false e = other (eqb-false m n e)

pub le_holds : (m n : ℕ) → m ≤ n → le? m n ≡ true
unfolding le?
le_holds = le-leb

pub le_fails : (m n : ℕ) → n < m → le? m n ≡ false
unfolding le?
le_fails = lt-leb

pub lt_holds : (m n : ℕ) → m < n → lt? m n ≡ true
lt_holds m n h = le_holds (suc m) n h

pub lt_fails : (m n : ℕ) → n ≤ m → lt? m n ≡ false
lt_fails m n h = le_fails (suc m) n (suc-le-suc h)

pub le_says : (m n : ℕ) → le? m n ≡ true → m ≤ n
unfolding le?
le_says = leb-true

pub eq_holds : (m n : ℕ) → m ≡ n → eq? m n ≡ true
unfolding eq?
eq_holds = eq-eqb

pub eq_fails : (m n : ℕ) → ¬ (m ≡ n) → eq? m n ≡ false
unfolding eq?
eq_fails = ne_eqb

-- two tests that say the same are the same
pub le_same : (m n k l : ℕ) → (m ≤ n → k ≤ l) → (k ≤ l → m ≤ n) → le? m n ≡ le? k l
le_same m n k l f g = go (le? m n) (le_view m n)
  where
    go : (b : Bool) → Le? m n b → b ≡ le? k l
    go true (le p) = sym (le_holds k l (f p))
    go false (gt p) = sym (go_over (le? k l) (le_view k l))
      where
        go_over : (b : Bool) → Le? k l b → b ≡ false
        go_over true (le q) = let r : m ≤ n = g q in absurd (omega arith)
        go_over false v = refl

-- what three tests together say
pub three_say : (a b c : Bool) → (a && b && c) ≡ true → (a ≡ true) × (b ≡ true) × (c ≡ true)
three_say true true true e = (refl, refl, refl)
three_say true true false e = absurd (false≢true e)
three_say true false c e = absurd (false≢true e)
three_say false b c e = absurd (false≢true e)

pub one_small : (b : Bool) → one_if b ≤ 1
one_small true = omega arith
one_small false = omega arith

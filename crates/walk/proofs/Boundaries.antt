-- Laws of lower boundaries, which are signed.
use Rattle.std.proofs.Common.{◌≡◌, ℕ, zero, suc, ◌+◌, ◌-◌, ◌<◌, ◌≤◌, Bool, true, false, cond, ltb, leb, ◌↔◌, ℤ, pos, negsuc, ◌-ℤ◌, ◌≤ℤ◌, sym, refl, ap, arith, le→leb, le-ltb, ne_eqb, le-leb, leb-true}
use borrow.Author.Tests.{lt-leb, eqb-false}
use lib.Dec.{leb-zero}
use lib.Signed.{le_z, lt_z, le_z_yes}
use Rattle.walk.specs.Numbers.{le?, lt?, eq_z?}
use Rattle.walk.specs.Units.{wide}
use Rattle.walk.specs.Walk.{below, wide?}
use Rattle.walk.specs.Record.{first_above}
use Rattle.walk.proofs.Tests.{clash, test, Le?, le, gt, le?_fails}

-- a boundary just below a later count is no lower
pub below_rises : (m n : ℕ) → m ≤ n → below m ≤ℤ below n
unfolding below
below_rises zero zero h = le_z_yes (le→leb 0 0 (omega arith))
below_rises zero (suc n) h = le_z_yes tt
below_rises (suc m) zero h = absurd (omega arith)
below_rises (suc m) (suc n) h = le_z_yes (le→leb m n (omega arith))

-- how far an upper boundary lies over a lower one
pub apart_below : (u f : ℕ) → f ≤ u → pos u -ℤ below f ≡ pos (suc (u - f))
unfolding below
apart_below u zero h = ap pos (omega arith)
apart_below u (suc zero) h = ap pos (omega arith)
apart_below u (suc (suc g)) h =
    let e : u - suc g ≡ suc (u - suc (suc g)) = omega arith in
    rw (le-ltb u (suc g) (omega arith), e)

-- not wide, in plain numbers
pub wide_fails : (u f : ℕ) → f ≤ u → (wide? u (below f) ≡ false) ↔ (¬ (u ≡ f + wide))
unfolding wide? eq_z?
wide_fails u f h =
    rw (apart_below u f h)
    (λ e z. eqb-false (suc (u - f)) (suc wide) e (omega arith), λ n. ne_eqb (suc (u - f)) (suc wide) (λ e. n (omega arith)))

pub apart_order : (u f : ℕ) → le_z (pos 2) (pos u -ℤ below f) ≡ true → f < u
unfolding below
apart_order u zero h = omega (arith, leb-true 2 (u + 1) h)
apart_order u (suc zero) h = omega (arith, leb-true 2 (u + 0) h)
apart_order u (suc (suc g)) h = go (ltb u (suc g)) h
  where
    go : (t : Bool) → le_z (pos 2) (cond t (negsuc (suc g - suc u)) (pos (u - suc g))) ≡ true → suc (suc g) < u
    go true k = clash (sym k)
    go false k = omega (arith, leb-true 2 (u - suc g) k)

-- the first count above a boundary, and back
pub above_below : (f : ℕ) → first_above (below f) ≡ f
unfolding below first_above
above_below zero = refl
above_below (suc f) = refl

pub below_above : (z : ℤ) → le_z (negsuc 0) z ≡ true → z ≡ below (first_above z)
unfolding below first_above
below_above (pos b) e = refl
below_above (negsuc zero) e = refl
below_above (negsuc (suc b)) e = absurd (omega (arith, leb-true (suc b) 0 e))

-- no boundary is under -1
pub below_least : (f : ℕ) → le_z (negsuc 0) (below f) ≡ true
unfolding below
below_least zero = refl
below_least (suc f) = refl

-- a count is over a boundary exactly when it is not under the first live count
pub over_below : (f s : ℕ) → lt_z (below f) (pos s) ≡ le? f s
unfolding below le?
over_below zero s = sym (leb-zero s)
over_below (suc f) s = refl

-- .. and at or under it exactly when it is under the first live count
pub under_below : (s f : ℕ) → le_z (pos s) (below f) ≡ lt? s f
unfolding below
under_below s zero = sym (le?_fails (suc s) 0 (omega arith))
under_below s (suc f) = go (test (suc s) (suc f))
  where
    go : {b : Bool} → Le? (suc s) (suc f) b → leb s f ≡ b
    go (le h) = le-leb s f (omega arith)
    go (gt h) = lt-leb s f (omega arith)

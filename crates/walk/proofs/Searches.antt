-- The searches of specs/Numbers find the smallest and the largest, and there is one only.
use Rattle.std.proofs.Common.{◌≡◌, ℕ, zero, suc, ◌+◌, ◌<◌, ◌≤◌, Bool, true, false, ◌⊎◌, sym, refl, ◌∙◌, inl, inr, add-zero, add-suc, suc-add, eq-or-lt_of_le, arith}
use Rattle.walk.specs.Numbers.{le?, choose, Smallest, Largest, search_up, search_down}
use Rattle.walk.proofs.Tests.{clash, le?_sound, le?_complete}

pub smallest_only : {P : ℕ → Type 0} {lo hi i j : ℕ} → Smallest P lo hi i → Smallest P lo hi j → i ≡ j
smallest_only {i} {j} s t = omega (arith, s.first j t.from t.to t.holds, t.first i s.from s.to s.holds)

pub largest-only : {P : ℕ → Type 0} {lo hi i j : ℕ} → Largest P lo hi i → Largest P lo hi j → i ≡ j
largest-only {i} {j} s t = omega (arith, s.last j t.from t.to t.holds, t.last i s.from s.to s.holds)

-- ---- a search upward from j

-- it finds the first that passes
pub search_only : (n j r : ℕ) (test : ℕ → Bool) → j ≤ r → r ≤ j + n → (r < j + n → test r ≡ true)
    → ((i : ℕ) → j ≤ i → i < r → test i ≡ false) → search_up n j test ≡ r
unfolding search_up
search_only zero j r test l h hit miss = omega arith
search_only (suc n) j r test l h hit miss =
    go (eq-or-lt_of_le l) (λ k. search_only n (suc j) r test k (omega arith) (λ x. hit (omega arith)) (λ i x y. miss i (omega arith) y))
  where
    go : (j ≡ r) ⊎ (j < r) → (j < r → search_up n (suc j) test ≡ r) → search_up (suc n) j test ≡ r
    go (inl e) rest = let t : test j ≡ true = rw e (hit (omega arith)) in rw (t, e)
    go (inr k) rest = rw (miss j (omega arith) k) (rest k)

-- where it ends before j + n, that place passes; those before it fail
pub search_hit : (n j : ℕ) (test : ℕ → Bool) → search_up n j test < j + n → test (search_up n j test) ≡ true
unfolding search_up
search_hit zero j test l = absurd (omega arith)
search_hit (suc n) j test l = go (test j) refl l (search_hit n (suc j) test)
  where
    go : (b : Bool) → test j ≡ b → choose b j (search_up n (suc j) test) < j + suc n
        → (search_up n (suc j) test < suc j + n → test (search_up n (suc j) test) ≡ true) → test (choose b j (search_up n (suc j) test)) ≡ true
    go true e l rest = e
    go false e l rest = rest (omega arith)

pub search_miss : (n j : ℕ) (test : ℕ → Bool) (i : ℕ) → j ≤ i → i < search_up n j test → test i ≡ false
unfolding search_up
search_miss zero j test i l h = absurd (omega arith)
search_miss (suc n) j test i l h = go (test j) refl h (eq-or-lt_of_le l) (search_miss n (suc j) test i)
  where
    go : (b : Bool) → test j ≡ b → i < choose b j (search_up n (suc j) test) → (j ≡ i) ⊎ (j < i)
        → (suc j ≤ i → i < search_up n (suc j) test → test i ≡ false) → test i ≡ false
    go true e h k rest = absurd (omega arith)
    go false e h (inl q) rest = rw (← q) e
    go false e h (inr k) rest = rest k h

-- two tests that agree at each place
pub search_cong : (n j : ℕ) (f g : ℕ → Bool) → ((i : ℕ) → i < j + n → f i ≡ g i) → search_up n j f ≡ search_up n j g
unfolding search_up
search_cong zero j f g e = refl
search_cong (suc n) j f g e = rw (search_cong n (suc j) f g (λ i l. e i (omega arith)), e j (omega arith))

-- a search for the numbers j with f j ≤ e
module _ (f : ℕ → ℕ) (e : ℕ) where
  abbrev P : ℕ → Type 0
  P j = f j ≤ e

  abbrev p : ℕ → Bool
  p j = le? (f j) e

  pub found_up : (n j : ℕ) → P (j + n) → Smallest P j (j + n) (search_up n j p)
  unfolding search_up
  found_up zero j h = record { from = omega arith; to = omega arith; holds = rw add-zero at h; first = λ i l k x. l }
  found_up (suc n) j h = go (p j) refl (found_up n (suc j) (rw (add-suc, ← (suc-add j n)) at h))
    where
      later : p j ≡ false → (i : ℕ) → (j ≡ i) ⊎ (j < i) → P i → suc j ≤ i
      later e' i (inl q) x = clash (sym (le?_complete (f i) e x) ∙ (rw q at e'))
      later e' i (inr l) x = l

      go : (b : Bool) → p j ≡ b → Smallest P (suc j) (suc j + n) (search_up n (suc j) p) → Smallest P j (j + suc n) (choose b j (search_up n (suc j) p))
      go true e' rest = record { from = omega arith; to = omega arith; holds = le?_sound (f j) e e'; first = λ i l k x. l }
      go false e' rest = record {
        from = omega (arith, rest.from);
        to = omega (arith, rest.to);
        holds = rest.holds;
        first = λ i l k x. rest.first i (later e' i (eq-or-lt_of_le l) x) (omega arith) x;
      }

  pub found_down : (n : ℕ) → P 0 → Largest P 0 n (search_down n p)
  unfolding search_down
  found_down zero h = record { from = omega arith; to = omega arith; holds = h; last = λ i l k x. k }
  found_down (suc n) h = go (p (suc n)) refl (found_down n h)
    where
      earlier : p (suc n) ≡ false → (i : ℕ) → (i ≡ suc n) ⊎ (i < suc n) → P i → i ≤ n
      earlier e' i (inl q) x = clash (sym (le?_complete (f (suc n)) e (rw q at x)) ∙ e')
      earlier e' i (inr l) x = omega arith

      go : (b : Bool) → p (suc n) ≡ b → Largest P 0 n (search_down n p) → Largest P 0 (suc n) (choose b (suc n) (search_down n p))
      go true e' rest = record { from = omega arith; to = omega arith; holds = le?_sound (f (suc n)) e e'; last = λ i l k x. k }
      go false e' rest = record {
        from = omega arith;
        to = omega (arith, rest.to);
        holds = rest.holds;
        last = λ i l k x. rest.last i l (earlier e' i (eq-or-lt_of_le k) x) x;
      }

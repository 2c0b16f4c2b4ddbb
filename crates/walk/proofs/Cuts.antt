-- Rules 2 and 3 on a list of cells: what `kept` and `dropped` leave fits, no other choice is better, and they do not overlap.
use Rattle.std.proofs.Common.{ℕ, zero, suc, ◌+◌, ◌<◌, ◌≤◌, Bool, true, false, List, [], ◌∷◌, length, take, drop, lt_of_not-le, arith}
use Rattle.walk.specs.Numbers.{le?, choose, sum}
use Rattle.walk.specs.Row.{kept, dropped}
use Rattle.walk.proofs.Tests.{test, Le?, le, gt}
use Rattle.walk.proofs.Lists.{sum-take-drop, sum-drop_falls}

module _ (e over : ℕ) where
  -- the cells from place k on fit, k is a place, and at no place before k do they fit
  pub record Keeps (cs : List ℕ) (k : ℕ) : Type 0 where
    pub fits : sum (drop k cs) + over ≤ e
    pub within : k ≤ length cs
    pub least : (i : ℕ) → i < k → e < sum (drop i cs) + over

  pub keeps : over ≤ e → (cs : List ℕ) → Keeps cs (kept e over cs)
  unfolding kept
  keeps h [] = record { fits = omega arith; within = omega arith; least = λ i l. absurd (omega arith) }
  keeps h (x ∷ xs) = go (le? (sum (x ∷ xs) + over) e) (test (sum (x ∷ xs) + over) e) (keeps h xs)
    where
      earlier : e < sum (x ∷ xs) + over → Keeps xs (kept e over xs) → (i : ℕ) → i < suc (kept e over xs) → e < sum (drop i (x ∷ xs)) + over
      earlier g r zero l = g
      earlier g r (suc i) l = r.least i (omega arith)

      go : (b : Bool) → Le? (sum (x ∷ xs) + over) e b → Keeps xs (kept e over xs) → Keeps (x ∷ xs) (choose b 0 (suc (kept e over xs)))
      go true (le g) r = record { fits = g; within = omega arith; least = λ i l. absurd (omega arith) }
      go false (gt g) r = record { fits = r.fits; within = omega (arith, r.within); least = earlier g r }

module _ (e : ℕ) where
  -- the first d cells fit, d is a place, and one more does not fit
  pub record Drops (under : ℕ) (cs : List ℕ) (d : ℕ) : Type 0 where
    pub fits : sum (take d cs) + under ≤ e
    pub within : d ≤ length cs
    pub most : d < length cs → e < sum (take (suc d) cs) + under

  pub drops : (under : ℕ) → under ≤ e → (cs : List ℕ) → Drops under cs (dropped e under cs)
  unfolding dropped
  drops under h [] = record { fits = omega arith; within = omega arith; most = λ l. absurd (omega arith) }
  drops under h (x ∷ xs) = go (le? (x + under) e) (test (x + under) e) (λ g. drops (x + under) g xs)
    where
      go : (b : Bool) → Le? (x + under) e b → (x + under ≤ e → Drops (x + under) xs (dropped e (x + under) xs))
          → Drops under (x ∷ xs) (choose b (suc (dropped e (x + under) xs)) 0)
      go true (le g) rest =
          let r : Drops (x + under) xs (dropped e (x + under) xs) = rest g in
          record { fits = omega (arith, r.fits); within = omega (arith, r.within); most = λ l. omega (arith, r.most (omega arith)) }
      go false (gt g) rest = record { fits = omega arith; within = omega arith; most = λ l. omega arith }

-- where the cells and the spent masses are more than both sides may spend, the boundaries do not meet
pub cut_order : (e over under : ℕ) (cs : List ℕ) (k d : ℕ) → e + e < sum cs + over + under → Keeps e over cs k → Drops e under cs d → d < k
cut_order e over under cs k d h keep drop =
    lt_of_not-le (λ (q : k ≤ d). omega (arith, keep.fits, drop.fits, sum-drop_falls cs k d q, sum-take-drop cs d))

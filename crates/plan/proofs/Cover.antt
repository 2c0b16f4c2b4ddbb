-- Rule 6 as a test says what it says in words: one climbs from right end to right end, and just past a right end e lies (2e + 1) / 2,000,000.
use mathlib.Core.Path.{◌≡◌}
use mathlib.Core.Bool.{true}
use mathlib.Core.Logic.{◌↔◌, ◌⊎◌, inl, inr, ⊎_elim}
use Prim.Native.Nat.{ℕ, zero, suc, ◌+◌, ◌*◌, ◌≤◌, ◌<◌}
use native.Mathlib.Nat.{mul-le-mul_right, lt_of_le_of_lt}
use native.Mathlib.Omega.{arith}
use Rattle.walk.specs.Units.{million}
use Rattle.plan.specs.Plan.{left_at, right_at, covered_above, rule6, Holds, Covered, CoveredTheorem}
use Rattle.plan.specs.declared.Plan.{Plan}
use Rattle.plan.proofs.PlaceLaws.{both, either, le_or_lt, le_reads, eq_reads, all_say, any_say}

module _ (p : Plan) where
  -- some bucket covers what lies just above e
  abbrev Next : ℕ → Type 0
  Next e = (j : ℕ) × (j < p.buckets) × ((left_at p j ≤ e) × (e < right_at p j))

  covered_says : (e : ℕ) → (covered_above p e ≡ true) ↔ ((million ≤ e) ⊎ Next e)
  unfolding covered_above
  covered_says e = either (le_reads million e) (any_say _ (λ j. both (le_reads (left_at p j) e) (le_reads (suc e) (right_at p j))) p.buckets)

  -- the test in words: some bucket begins at 0, and what lies just above each right end below 1,000,000 is covered
  abbrev Begun : Type 0
  Begun = (j : ℕ) × (j < p.buckets) × (left_at p j ≡ 0)

  abbrev Chained : Type 0
  Chained = (j : ℕ) → j < p.buckets → (million ≤ right_at p j) ⊎ Next (right_at p j)

  rule6_says : (rule6 p ≡ true) ↔ (Begun × Chained)
  unfolding rule6
  rule6_says = both (any_say _ (λ j. eq_reads (left_at p j) 0) p.buckets) (all_say _ (λ j. covered_says (right_at p j)) p.buckets)

  abbrev Held : ℕ → ℕ → Type 0
  Held x y = (j : ℕ) × (j < p.buckets) × Holds p x y j

  module _ (x y : ℕ) (fraction : x ≤ y) (next : Chained) where
    top : (r : ℕ) → million ≤ r → x * million ≤ r * y
    unfolding million
    top r h = omega (arith, mul-le-mul_right y h)

    -- from a bucket whose left end is passed, over at most n further right ends
    climb : (n j : ℕ) → j < p.buckets → (left_at p j * y < x * million) ⊎ (left_at p j ≡ 0) → million ≤ right_at p j + n → Held x y
    climb zero j l e far = (j, l, (e, top (right_at p j) (omega arith)))
    climb (suc n) j l e far =
        ⊎_elim (λ h. (j, l, (e, h)))
        (λ past.
        ⊎_elim (λ h. (j, l, (e, top (right_at p j) h)))
        (λ s. climb n s.0 s.1 (inl (lt_of_le_of_lt (mul-le-mul_right y s.2.0) past)) (omega (arith, s.2.1)))
        (next j l))
        (le_or_lt (x * million) (right_at p j * y))

  -- just past a right end
  past : (e : ℕ) → e < million → Held (2 * e + 1) 2000000 → Next e
  unfolding million
  past e h (j, l, (left, right)) = (j, l, (⊎_elim (λ q. omega (arith, q)) (λ q. omega (arith, q)) left, omega arith))

pub covers : CoveredTheorem
unfolding Covered million
covers p = (
  λ e x y pos fraction.
      let b = (rule6_says p).0 e in
      let s = b.0 in
      climb p x y fraction b.1 million s.0 s.1 (inr s.2) (omega arith),
  λ c.
      let s = c 0 1 (omega arith) (omega arith) in
      (rule6_says p).1 (
        (s.0, s.1, ⊎_elim (λ h. absurd (omega arith)) (λ h. h) s.2.0),
        λ j l. ⊎_elim inl (λ h. inr (past p (right_at p j) h (c (2 * right_at p j + 1) 2000000 (omega arith) (omega arith)))) (le_or_lt million (right_at p j)),
      ),
)

-- The exact weights by count, between any boundaries, and the sums over strings that they are.
use Rattle.std.proofs.Common.{◌≡◌, ℕ, zero, suc, ◌+◌, ◌*◌, ◌^◌, ◌<◌, ◌≤◌, Bool, true, false, sym, refl, ◌∙◌, zero-mul, arith}
use Rattle.walk.specs.declared.Mark.{Mark}
use Rattle.walk.specs.declared.Mark.TheVariants.{Open, Above, AtMost}
use Rattle.walk.specs.Numbers.{le?, lt?, only, sum_to}
use Rattle.walk.specs.Walk.{is_live, previous, cellwise}
use Rattle.walk.specs.Strings.{Draws, ones, weight, sum_strings, Side, Upper, Lower, judged, verdict, or_else, mark, is_on, mark_open}
use Rattle.walk.proofs.Tests.{Le?, le, gt, test, le?_complete, le?_fails, only_zero, only_one, only_swap, sum_cong}
use Rattle.walk.proofs.StringLaws.{strings_cong, strings_add, strings_mul, strings_whole}

-- weights by count, one draw later and with no boundary
abbrev pub shifted : ℕ → ℕ → (ℕ → ℕ) → ℕ → ℕ
shifted x z = cellwise (λ stay come. stay * z + come * x)

-- a number for each count, weighed over the counts one draw later
abbrev pub ahead : ℕ → ℕ → (ℕ → ℕ) → ℕ → ℕ
ahead x z h c = z * h c + x * h (suc c)

pub shifted_sum : (x z : ℕ) (g h : ℕ → ℕ) (n : ℕ) → g n ≡ 0
    → sum_to (suc n) (λ c. shifted x z g c * h c) ≡ sum_to n (λ c. g c * ahead x z h c)
shifted_sum x z g h n e = rw e (omega (arith, go n))
  where
    go : (n : ℕ) → sum_to n (λ c. shifted x z g c * h c) + previous g n * x * h n ≡ sum_to n (λ c. g c * ahead x z h c)
    go zero = omega arith
    go (suc n) = omega (arith, go n)

-- an open mark is on no side
pub open_off : (side : Side) → is_on side Open ≡ false
open_off Upper = refl
open_off Lower = refl

-- between boundaries in order, the verdict on a count is three tests
pub verdict_tests : (first upper : ℕ → ℕ) (t c : ℕ) → first t ≤ upper t
    → (mark_open (verdict first upper t c) ≡ is_live (first t) (upper t) c)
    × (is_on Upper (verdict first upper t c) ≡ le? (upper t) c)
    × (is_on Lower (verdict first upper t c) ≡ lt? c (first t))
unfolding verdict
verdict_tests first upper t c order = go _ _ (test (upper t) c) (test (suc c) (first t))
  where
    go : (o u : Bool) → Le? (upper t) c o → Le? (suc c) (first t) u
        → (mark_open (judged t o u) ≡ is_live (first t) (upper t) c) × (is_on Upper (judged t o u) ≡ o) × (is_on Lower (judged t o u) ≡ u)
    go true true (le h) (le k) = absurd (omega arith)
    go true false (le h) k = (rw (le?_complete (first t) c (omega arith), le?_fails (suc c) (upper t) (omega arith)), refl, refl)
    go false true h (le k) = (rw (le?_fails (first t) c k), refl, refl)
    go false false (gt h) (gt k) = (rw (le?_complete (first t) c (omega arith), le?_complete (suc c) (upper t) h), refl, refl)

module _ (x z : ℕ) (first upper : ℕ → ℕ) where
  -- the weight of the strings of n draws that met no boundary and have c ones
  unfoldable pub exact : ℕ → ℕ → ℕ
  exact zero zero = 1
  exact zero (suc c) = 0
  exact (suc n) c = only (mark_open (verdict first upper (suc n) c)) (shifted x z (exact n) c)

  -- the weight of the strings of n draws whose mark passes a test that Open does not
  unfoldable pub met : (Mark → Bool) → ℕ → ℕ
  met is zero = 0
  met is (suc n) = met is n * (z + x) + sum_to (suc (suc n)) (λ c. only (is (verdict first upper (suc n) c)) (shifted x z (exact n) c))

  pub exact_suc : (n c : ℕ) → exact (suc n) c ≡ only (mark_open (verdict first upper (suc n) c)) (shifted x z (exact n) c)
  unfolding exact
  exact_suc n c = refl

  pub met_zero : (is : Mark → Bool) → met is 0 ≡ 0
  unfolding met
  met_zero is = refl

  pub met_suc : (is : Mark → Bool) (n : ℕ)
      → met is (suc n) ≡ met is n * (z + x) + sum_to (suc (suc n)) (λ c. only (is (verdict first upper (suc n) c)) (shifted x z (exact n) c))
  unfolding met
  met_suc is n = refl

  pub exact_none : (n c : ℕ) → n < c → exact n c ≡ 0
  unfolding exact
  exact_none zero zero h = omega arith
  exact_none zero (suc c) h = refl
  exact_none (suc n) zero h = omega arith
  exact_none (suc n) (suc c) h =
      rw (exact_none n (suc c) (omega arith), exact_none n c (omega arith), zero-mul z, zero-mul x)
      (only_zero (mark_open (verdict first upper (suc n) (suc c))))

  exact_sum : (n : ℕ) (h : ℕ → ℕ)
      → sum_to (suc n) (λ c. exact n c * ahead x z h c) ≡ sum_to (suc (suc n)) (λ c. shifted x z (exact n) c * h c)
  exact_sum n h = sym (shifted_sum x z (exact n) h (suc n) (exact_none n (suc n) (omega arith)))

  -- the weight of a string if its mark passes, else 0
  abbrev pub weight_if : (Mark → Bool) → Draws → ℕ
  weight_if is s = only (is (mark first upper s)) (weight x z s)

  -- the strings that met no boundary, each with a number for its count
  pub live_sum : (n : ℕ) (h : ℕ → ℕ) → sum_strings n (λ s. weight_if mark_open s * h (ones s)) ≡ sum_to (suc n) (λ c. exact n c * h c)
  unfolding exact mark
  live_sum zero h = omega arith
  live_sum (suc n) h =
      strings_cong n _ _ (λ s k. rw k (next (mark first upper s) (verdict first upper (suc n)) (ones s) (weight x z s)))
      ∙ live_sum n _
      ∙ exact_sum n (λ c. only (mark_open (verdict first upper (suc n) c)) (h c))
      ∙ sum_cong (suc (suc n)) _ _ (λ c l. only_swap (mark_open (verdict first upper (suc n) c)) (shifted x z (exact n) c) (h c))
    where
      next : (m : Mark) (v : ℕ → Mark) (c w : ℕ)
          → only (mark_open (or_else m (v c))) (z * w) * h c + only (mark_open (or_else m (v (suc c)))) (x * w) * h (suc c)
          ≡ only (mark_open m) w * ahead x z (λ c. only (mark_open (v c)) (h c)) c
      next Open v c w = omega (arith, only_swap (mark_open (v c)) (z * w) (h c), only_swap (mark_open (v (suc c))) (x * w) (h (suc c)))
      next (Above t) v c w = omega arith
      next (AtMost t) v c w = omega arith

  pub exact_total : (n : ℕ) → sum_strings n (weight_if mark_open) ≡ sum_to (suc n) (exact n)
  exact_total n =
      strings_cong n _ (λ s. weight_if mark_open s * 1) (λ s k. omega arith)
      ∙ live_sum n (λ _. 1)
      ∙ sum_cong (suc n) _ _ (λ c l. omega arith)

  pub met_sum : (is : Mark → Bool) → is Open ≡ false → (n : ℕ) → sum_strings n (weight_if is) ≡ met is n
  unfolding met mark
  met_sum is e zero = rw e
  met_sum is e (suc n) =
      strings_cong n _ (λ s. weight_if is s * (z + x) + weight_if mark_open s * ahead x z now (ones s)) (λ s k.
      rw k (next (mark first upper s) (verdict first upper (suc n)) (ones s) (weight x z s)))
      ∙ strings_add n _ _
      ∙ rw (
        strings_mul n (weight_if is) (z + x),
        met_sum is e n,
        live_sum n (ahead x z now),
        exact_sum n now,
        sum_cong (suc (suc n)) _ _ (λ c l. only_one (is (verdict first upper (suc n) c)) (shifted x z (exact n) c)),
      )
    where
      now : ℕ → ℕ
      now c = only (is (verdict first upper (suc n) c)) 1

      settled : (b : Bool) (w : ℕ) → only b (z * w) + only b (x * w) ≡ only b w * (z + x)
      settled true w = omega arith
      settled false w = omega arith

      next : (m : Mark) (v : ℕ → Mark) (c w : ℕ)
          → only (is (or_else m (v c))) (z * w) + only (is (or_else m (v (suc c)))) (x * w)
          ≡ only (is m) w * (z + x) + only (mark_open m) w * ahead x z (λ c. only (is (v c)) 1) c
      next Open v c w = rw e (omega (arith, only_one (is (v c)) (z * w), only_one (is (v (suc c))) (x * w)))
      next (Above t) v c w = omega (arith, settled (is (Above t)) w)
      next (AtMost t) v c w = omega (arith, settled (is (AtMost t)) w)

  -- every string met no boundary, or one
  pub whole : (n : ℕ) → sum_to (suc n) (exact n) + met (is_on Upper) n + met (is_on Lower) n ≡ (z + x) ^ n
  whole n =
      rw (← (exact_total n), ← (met_sum (is_on Upper) refl n), ← (met_sum (is_on Lower) refl n), ← strings_add, ← strings_add)
      (strings_cong n _ _ (λ s k. one (mark first upper s) (weight x z s)) ∙ strings_whole x z n)
    where
      one : (m : Mark) (w : ℕ) → only (mark_open m) w + only (is_on Upper m) w + only (is_on Lower m) w ≡ w
      one Open w = omega arith
      one (Above t) w = omega arith
      one (AtMost t) w = omega arith

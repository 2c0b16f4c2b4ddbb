-- The run of an order ends, and what its answer says: it is at most j / l exactly when at most j of the first l results are at least the real one.
use mathlib.Core.Path.{◌≡◌, refl, sym, ap, ◌∙◌}
use mathlib.Core.Bool.{true}
use mathlib.Core.List.{List, [], ◌∷◌, map}
use Prim.Native.Nat.{ℕ, zero, suc, ◌+◌, ◌-◌, ◌*◌, ◌≤◌, ◌<◌}
use native.Mathlib.Nat.{mul-le-mul, mul-le-mul_right, mul-lt-mul_of_pos_left, le_of_mul-le-mul_right}
use native.Mathlib.Omega.{arith}
use lib.ListN.{length, take}
use Rattle.counting.specs.Tests.{le?, one_if, how_many}
use Rattle.counting.specs.Run.{answer_of, run_of}
use Rattle.counting.specs.Stopping.{or_later, ending}
use Rattle.counting.specs.OneCall.{InRange}
use Rattle.counting.specs.Share.{answer_to, at_most, by_stop, by_size, Ends}
use Rattle.counting.specs.declared.Answer.{Answer}
use Rattle.counting.proofs.TestLaws.{le_holds, le_fails, le_same, one_small}
use Rattle.counting.proofs.OneCall.{one_call}
use Rattle.counting.proofs.Carried.{AnswerIs, stopped, spent, going, answer_is, taken}
use Rattle.counting.proofs.Firsts.{among}

module _ (h n : ℕ) (ok : InRange h n) (x : ℕ) where
  -- the draws of the shuffles s beside the real result x, to a run that has taken l draws with g ones
  rest : List ℕ → ℕ → ℕ → Answer
  rest s l g = ending (run_of h n l g) (map (λ y. one_if (le? x y)) s)

  -- one more shuffle
  step : (y : ℕ) (s : List ℕ) (l g : ℕ) → g < h → g ≤ l → suc l < n
      → rest (y ∷ s) l g ≡ or_later (answer_of (run_of h n (l + 1) (g + one_if (le? x y)))) (rest s (l + 1) (g + one_if (le? x y)))
  unfolding rest ending
  step y s l g gh gl ln = rw (taken h n ok l g (one_if (le? x y)) (one_small (le? x y)) gh gl ln)

  -- ---- with n - 1 shuffles the run ends, with a value

  answered_at : (l g : ℕ) (a r : Answer) → g ≤ l → l < n → AnswerIs h n ok l g a → (g < h → suc l < n → Ends h n r) → Ends h n (or_later a r)
  answered_at l g _ r gl ln (stopped p) f = record { numerator = h; denominator = l; is = refl; value = by_stop refl (omega arith) ln }
  answered_at l g _ r gl ln (spent p q) f = record { numerator = g + 1; denominator = n; is = refl; value = by_size (omega arith) (omega arith) refl }
  answered_at l g _ r gl ln (going p q) f = f p q

  ends_at : (s : List ℕ) (l g : ℕ) → g < h → g ≤ l → suc l < n → length s + suc l ≡ n → Ends h n (rest s l g)
  ends_at [] l g gh gl ln t = absurd (omega arith)
  ends_at (y ∷ s) l g gh gl ln t =
      let small = one_small (le? x y) in
      rw (step y s l g gh gl ln)
      (answered_at (l + 1) (g + one_if (le? x y)) _ _ (omega arith) (omega arith) (answer_is h n ok (l + 1) (g + one_if (le? x y)) (omega arith) (omega arith))
      (λ p q. ends_at s (l + 1) (g + one_if (le? x y)) p (omega arith) q (omega arith)))

  -- ---- whether it is at most j / (m + 1): a value, so j is h unless m + 1 is n

  module _ (j m : ℕ) (jh : j ≤ h) (mn : suc m ≤ n) (whole : suc m < n → j ≡ h) where
    -- past m draws every answer is ..
    late : (l g : ℕ) (a r : Answer) → m < l → l < n → AnswerIs h n ok l g a → (g < h → suc l < n → at_most j (suc m) r ≡ true)
        → at_most j (suc m) (or_later a r) ≡ true
    late l g _ r ml ln (stopped p) f = le_holds _ _ (mul-le-mul (omega (arith, whole (omega arith))) (omega arith))
    late l g _ r ml ln (spent p q) f = le_holds _ _ (mul-le-mul (omega (arith, whole (omega arith))) (omega arith))
    late l g _ r ml ln (going p q) f = f p q

    -- .. and up to m draws the h-th one gives a larger one; w of the shuffles left of the first m are at least the real result
    early : (l g w : ℕ) (a r : Answer) → l ≤ m → (suc l ≡ n → w ≡ 0) → AnswerIs h n ok l g a
        → (g < h → suc l < n → at_most j (suc m) r ≡ le? (suc (g + w)) j) → at_most j (suc m) (or_later a r) ≡ le? (suc (g + w)) j
    early l g w _ r lm none (stopped p) f =
        le_fails (h * suc m) (j * l) (let lo = mul-le-mul_right l jh in let hi : h * l < h * suc m = mul-lt-mul_of_pos_left (omega arith) ok.from_1 in omega arith)
        ∙ sym (le_fails (suc (g + w)) j (omega arith))
    early l g w _ r lm none (spent p q) f =
        let z : n ≡ suc m = omega arith in
        rw z (le_same _ _ _ _ (λ t. let c = le_of_mul-le-mul_right t (omega arith) in omega (arith, none q)) (λ t. mul-le-mul_right (suc m) (omega (arith, none q))))
    early l g w _ r lm none (going p q) f = f p q

    empty : (k : ℕ) (s : List ℕ) → length s ≡ 0 → how_many (le? x) (take k s) ≡ 0
    empty zero s e = refl
    empty (suc k) [] e = refl
    empty (suc k) (y ∷ s) e = absurd (omega arith)

    -- the answer of the shuffles s, of which k are among the first m
    stops : (s : List ℕ) (l g k : ℕ) → k ≡ m - l → g < h → g ≤ l → suc l < n → length s + suc l ≡ n
        → at_most j (suc m) (rest s l g) ≡ le? (suc (g + how_many (le? x) (take k s))) j
    stops [] l g k e gh gl ln t = absurd (omega arith)
    stops (y ∷ s) l g zero e gh gl ln t =
        let small = one_small (le? x y) in
        let full = whole (omega arith) in
        rw (step y s l g gh gl ln)
        (late (l + 1) (g + one_if (le? x y)) _ _ (omega arith) (omega arith)
        (answer_is h n ok (l + 1) (g + one_if (le? x y)) (omega arith) (omega arith))
        (λ p q. stops s (l + 1) (g + one_if (le? x y)) 0 (omega arith) p (omega arith) q (omega arith) ∙ le_holds _ _ (omega arith))
        ∙ sym (le_holds _ _ (omega arith)))
    stops (y ∷ s) l g (suc k) e gh gl ln t =
        let small = one_small (le? x y) in
        rw (step y s l g gh gl ln)
        (early (l + 1) (g + one_if (le? x y)) (how_many (le? x) (take k s)) _ _ (omega arith) (λ q. empty k s (omega arith))
        (answer_is h n ok (l + 1) (g + one_if (le? x y)) (omega arith) (omega arith))
        (λ p q. stops s (l + 1) (g + one_if (le? x y)) k (omega arith) p (omega arith) q (omega arith))
        ∙ ap (λ (i : ℕ). le? (suc i) j) (omega arith))

-- ---- of an order of n results

module _ (h n : ℕ) (ok : InRange h n) where
  pub ends : (o : List ℕ) → length o ≡ n → Ends h n (answer_to h n o)
  unfolding answer_to rest
  ends [] e = absurd (omega (arith, ok.below))
  ends (x ∷ s) e = rw ((one_call.begins h n).else_open ok) (ends_at h n ok x s 0 0 ok.from_1 (omega arith) (omega (arith, ok.from_1, ok.below)) (omega arith))

  pub says : (j m : ℕ) → j ≤ h → suc m ≤ n → (suc m < n → j ≡ h) → (o : List ℕ) → length o ≡ n → at_most j (suc m) (answer_to h n o) ≡ among j (suc m) o
  unfolding answer_to rest
  says j m jh mn whole [] e = absurd (omega (arith, ok.below))
  says j m jh mn whole (x ∷ s) e =
      rw ((one_call.begins h n).else_open ok)
      (stops h n ok x j m jh mn whole s 0 0 m (omega arith) ok.from_1 (omega arith) (omega (arith, ok.from_1, ok.below)) (omega arith)
      ∙ rw (le_holds x x (omega arith)) (le_same _ _ _ _ (λ z. omega arith) (λ z. omega arith)))

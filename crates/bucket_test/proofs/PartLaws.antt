-- The parts of lent words (specs/Words).
use mathlib.Core.Path.{◌≡◌}
use mathlib.Core.Bool.{true}
use mathlib.Core.Logic.{◌↔◌, ◌⊎◌, inl, inr}
use mathlib.Core.List.{List, [], ◌++◌, append_assoc, append-nil}
use Prim.Native.Nat.{ℕ, zero, suc, ◌*◌, ◌<◌}
use native.Mathlib.Nat.{eq-or-lt_of_le}
use native.Mathlib.Omega.{arith}
use lib.ListN.{length}
use lib.Seq.{take_at, drop_at}
use Rattle.walk.specs.Units.{wide}
use Rattle.plan.specs.Places.{join_to}
use Rattle.plan.specs.declared.Plan.{Plan}
use Rattle.plan.proofs.PlaceLaws.{eq_reads}
use Rattle.plan.proofs.PlaceLists.{join_length}
use Rattle.bucket_test.specs.Words.{part_at, words_fit}

-- refusal 8
pub words_say : (p : Plan) (ws : List ℕ) → (words_fit p ws ≡ true) ↔ (length ws ≡ wide * p.count)
unfolding words_fit
words_say p ws = eq_reads (length ws) (wide * p.count)

module _ (g : ℕ → List ℕ) where
  -- part i, with more behind
  pub join_part_more : (n : ℕ) → ((i : ℕ) → i < n → length (g i) ≡ wide) → (r : List ℕ) (i : ℕ) → i < n → part_at i (join_to n g ++ r) ≡ g i
  unfolding join_to part_at
  join_part_more zero e r i l = absurd (omega arith)
  join_part_more (suc n) e r i l = rw append_assoc (go (λ h. join_part_more n (λ j k. e j (omega arith)) (g n ++ r) i h) (eq-or-lt_of_le l))
    where
      go : (i < n → part_at i (join_to n g ++ (g n ++ r)) ≡ g i) → (suc i ≡ suc n) ⊎ (suc i < suc n) → part_at i (join_to n g ++ (g n ++ r)) ≡ g i
      go rest (inl q) =
          let f : i ≡ n = omega arith in
          rw (f, drop_at (join_to n g) (g n ++ r) (wide * n) (join_length g wide n (λ j k. e j (omega arith))))
          (take_at (g n) r wide (e n (omega arith)))
      go rest (inr h) = rest (omega arith)

  pub join_part : (n : ℕ) → ((i : ℕ) → i < n → length (g i) ≡ wide) → (i : ℕ) → i < n → part_at i (join_to n g) ≡ g i
  join_part n e i l = rw append-nil at (join_part_more n e [] i l)

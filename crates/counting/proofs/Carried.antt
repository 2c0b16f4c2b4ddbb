-- A draw to a run that was carried from a beginning to l draws with g ones.
use mathlib.Core.Path.{◌≡◌}
use mathlib.Core.Logic.{inl, inr}
use mathlib.Core.Bool.{Bool, true, false}
use Prim.Native.Nat.{ℕ, suc, ◌+◌, ◌-◌, ◌≤◌, ◌<◌}
use native.Mathlib.Omega.{arith}
use Rattle.counting.specs.Tests.{le?, eq?}
use Rattle.counting.specs.Run.{is_over, answer_of, run_of, refused, drawn}
use Rattle.counting.specs.OneCall.{InRange, Over, Spoiled, Answers}
use Rattle.counting.specs.declared.Drawn.{Drawn}
use Rattle.counting.specs.declared.Answer.{Answer}
use Rattle.counting.specs.declared.Answer.TheVariants.{Open, Ended}
use Rattle.counting.proofs.TestLaws.{Le?, le, gt, le_view, Eq?, same, other, eq_view}
use Rattle.counting.proofs.JudgingLaws.{fits, over-holds, over_fails, sound_holds, answer_says, drawn_9, drawn_10, drawn_0}

module _ (h n : ℕ) (ok : InRange h n) where
  pub goes_on : (l g : ℕ) → g < h → suc l < n → is_over (run_of h n l g) ≡ false
  goes_on l g gh ln = over_fails (run_of h n l g) go
    where
      go : ¬ (Over (run_of h n l g))
      go (inl e) = omega arith
      go (inr e) = omega arith

  -- its answer
  pub data AnswerIs (l g : ℕ) : Answer → Type 0 where
    stopped : g ≡ h → AnswerIs l g (Ended h l)
    spent : g < h → suc l ≡ n → AnswerIs l g (Ended (g + 1) n)
    going : g < h → suc l < n → AnswerIs l g Open

  pub answer_is : (l g : ℕ) → g ≤ h → l < n → AnswerIs l g (answer_of (run_of h n l g))
  answer_is l g gh ln = go (eq? g h) (eq_view g h) (eq? l (n - 1)) (eq_view l (n - 1)) (answer_says h n l g)
    where
      go : (a : Bool) → Eq? g h a → (b : Bool) → Eq? l (n - 1) b → {x : Answer} → Answers h n l g x → AnswerIs l g x
      go true (same e) b v s = rw (s.at_stop e) (stopped e)
      go false (other f) true (same e) s = rw (s.at_size f e) (spent (omega arith) (omega arith))
      go false (other f) false (other k) s = rw (s.else_open f k) (going (omega arith) (omega arith))

  pub taken : (l g d : ℕ) → d ≤ 1 → g < h → g ≤ l → suc l < n
      → drawn (run_of h n l g) d ≡ record { answer = answer_of (run_of h n (l + 1) (g + d)); run = run_of h n (l + 1) (g + d) }
  taken l g d bit gh gl ln = drawn_0 (run_of h n l g) d (fits h n ok) bit (goes_on l g gh ln) (sound_holds (run_of h n l g) sound)
    where
      sound : ¬ (Spoiled (run_of h n l g))
      sound (inl p) = omega arith
      sound (inr (inl p)) = omega arith
      sound (inr (inr p)) = omega arith

  -- what a draw does to it
  pub data Turn (l g d : ℕ) : Drawn → Type 0 where
    refuses_9 : 1 < d → Turn l g d (refused 9 (run_of h n l g))
    refuses_10 : d ≤ 1 → is_over (run_of h n l g) ≡ true → Turn l g d (refused 10 (run_of h n l g))
    takes : d ≤ 1 → g < h → suc l < n
        → Turn l g d (record { answer = answer_of (run_of h n (l + 1) (g + d)); run = run_of h n (l + 1) (g + d) })

  pub turn : (l g d : ℕ) → g ≤ h → g ≤ l → l < n → Turn l g d (drawn (run_of h n l g) d)
  turn l g d gh gl ln = go (le? d 1) (le_view d 1) (eq? g h) (eq_view g h) (eq? l (n - 1)) (eq_view l (n - 1))
    where
      over : d ≤ 1 → Over (run_of h n l g) → Turn l g d (drawn (run_of h n l g) d)
      over bit e = let t = over-holds (run_of h n l g) e in rw (drawn_10 (run_of h n l g) d (fits h n ok) bit t) (refuses_10 bit t)

      go : (a : Bool) → Le? d 1 a → (b : Bool) → Eq? g h b → (c : Bool) → Eq? l (n - 1) c → Turn l g d (drawn (run_of h n l g) d)
      go false (gt p) b v c w = rw (drawn_9 (run_of h n l g) d (fits h n ok) p) (refuses_9 p)
      go true (le p) true (same e) c w = over p (inl e)
      go true (le p) false v true (same e) = over p (inr e)
      go true (le p) false (other e) false (other f) =
          rw (taken l g d p (omega arith) gl (omega arith)) (takes p (omega arith) (omega arith))

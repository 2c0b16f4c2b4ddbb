-- The stopping rule: a run over a list stands at the draws taken, and each draw is answered by where it stands.
use mathlib.Core.Path.{◌≡◌, refl, sym, ap, ap₂, ◌∙◌}
use mathlib.Core.Bool.{Bool, true, false, cond, ◌||◌, true≢false, false≢true}
use mathlib.Core.List.{List, [], ◌∷◌}
use Prim.Native.Nat.{ℕ, zero, suc, ◌+◌, ◌-◌, ◌≤◌, ◌<◌}
use native.Mathlib.Omega.{arith}
use lib.ListN.{length}
use Rattle.counting.specs.Tests.{eq?, one_if}
use Rattle.counting.specs.Run.{is_over, answer_of, run_of, begun, drawn, is_ending, kind_of, first_of}
use Rattle.counting.specs.OneCall.{InRange, Bit}
use Rattle.counting.specs.Stopping.{after, taken_by, draws_taken, or_later, ending, ones, AnswersDraw, StopTheorem}
use Rattle.counting.specs.declared.Run.{Run}
use Rattle.counting.specs.declared.Drawn.{Drawn}
use Rattle.counting.specs.declared.Answer.{Answer}
use Rattle.counting.specs.declared.Answer.TheVariants.{Open, Ended, Refused}
use Rattle.counting.proofs.TestLaws.{eq_holds, eq_fails}
use Rattle.counting.proofs.JudgingLaws.{bit, small, answer_says}
use Rattle.counting.proofs.OneCall.{one_call}
use Rattle.counting.proofs.Carried.{goes_on, Turn, refuses_9, refuses_10, takes, turn}

-- a draw of 0 or 1 counts itself among the ones
count_one : (d : ℕ) → d ≤ 1 → one_if (eq? 1 d) ≡ d
count_one zero h = ap one_if (eq_fails 1 0 (λ e. omega arith))
count_one (suc zero) h = ap one_if (eq_holds 1 1 refl)
count_one (suc (suc d)) h = absurd (omega arith)

no_bit : (d : ℕ) → 1 < d → ¬ (Bit d)
no_bit d h b = omega (arith, small d b)

-- ---- the answer rule: it ends a run exactly where 10 refuses, and refuses nothing

ending-over : (r : Run) → is_ending (answer_of r) ≡ is_over r
unfolding answer_of is_over
ending-over r = go (eq? r.ones r.stop) (eq? r.taken (r.size - 1))
  where
    go : (a b : Bool) → is_ending (cond a (Ended r.stop r.taken) (cond b (Ended (r.ones + 1) r.size) Open)) ≡ (a || b)
    go true b = refl
    go false true = refl
    go false false = refl

no_refusal : (r : Run) → kind_of (answer_of r) < 2
unfolding answer_of
no_refusal r = go (eq? r.ones r.stop) (eq? r.taken (r.size - 1))
  where
    go : (a b : Bool) → kind_of (cond a (Ended r.stop r.taken) (cond b (Ended (r.ones + 1) r.size) Open)) < 2
    go true b = omega arith
    go false true = omega arith
    go false false = omega arith

-- so a draw that it answers is taken
is_taken : (a : Answer) (d : ℕ) (s : List ℕ) → kind_of a < 2 → taken_by a d s ≡ d ∷ s
is_taken Open d s k = refl
is_taken (Ended a b) d s k = refl
is_taken (Refused r) d s k = absurd (omega arith)

-- an ending answer stays, and an open one waits for a later one
ending_stays : (a x : Answer) → is_ending a ≡ true → or_later a x ≡ a
ending_stays Open x e = absurd (false≢true e)
ending_stays (Ended a b) x e = refl
ending_stays (Refused r) x e = absurd (false≢true e)

open_waits : (a x : Answer) → is_ending a ≡ false → or_later a x ≡ x
open_waits Open x e = refl
open_waits (Ended a b) x e = absurd (true≢false e)
open_waits (Refused r) x e = refl

open_answer : (a : Answer) → is_ending a ≡ false → kind_of a < 2 → a ≡ Open
open_answer Open e k = refl
open_answer (Ended a b) e k = absurd (true≢false e)
open_answer (Refused r) e k = absurd (omega arith)

module _ (h n : ℕ) (ok : InRange h n) where
  -- from l draws with g ones the run came to e with the draws s, and was ended by a; where it was over, nothing changed
  record Comes (l g : ℕ) (e : Run) (s : List ℕ) (a : Answer) : Type 0 where
    stands : e ≡ run_of h n (l + length s) (g + ones s)
    few : g + ones s ≤ h
    fewer : g + ones s ≤ l + length s
    early : l + length s < n
    if_over : is_over (run_of h n l g) ≡ true → e ≡ run_of h n l g
    if_going : is_over (run_of h n l g) ≡ false → a ≡ answer_of e

  run_same : {l l' g g' : ℕ} → l ≡ l' → g ≡ g' → run_of h n l g ≡ run_of h n l' g'
  run_same e f = ap₂ {C = Run} (λ (l g : ℕ). run_of h n l g) e f

  -- one draw before these
  further : (l g d : ℕ) (e : Run) (s : List ℕ) (x : Answer) → d ≤ 1 → g < h → suc l < n → Comes (l + 1) (g + d) e s x
      → Comes l g e (d ∷ s) (or_later (answer_of (run_of h n (l + 1) (g + d))) x)
  further l g d e s x b gh ln c = record {
    stands = c.stands ∙ run_same (omega arith) (omega (arith, count_one d b));
    few = omega (arith, count_one d b, c.few);
    fewer = omega (arith, count_one d b, c.fewer);
    early = omega (arith, c.early);
    if_over = λ t. absurd (true≢false (sym t ∙ goes_on h n ok l g gh ln));
    if_going = λ t. go (is_over next) refl;
  }
    where
      next : Run
      next = run_of h n (l + 1) (g + d)

      go : (over : Bool) → is_over next ≡ over → or_later (answer_of next) x ≡ answer_of e
      go true t = ending_stays (answer_of next) x (ending-over next ∙ t) ∙ ap answer_of (sym (c.if_over t))
      go false t = open_waits (answer_of next) x (ending-over next ∙ t) ∙ c.if_going t

  comes : (ds : List ℕ) (l g : ℕ) → g ≤ h → g ≤ l → l < n
      → Comes l g (after (run_of h n l g) ds) (draws_taken (run_of h n l g) ds) (ending (run_of h n l g) ds)
  unfolding after draws_taken ending
  comes [] l g gh gl ln = record {
    stands = run_same (omega arith) (omega arith);
    few = omega arith;
    fewer = omega arith;
    early = omega arith;
    if_over = λ t. refl;
    if_going = λ t. sym (open_answer _ (ending-over (run_of h n l g) ∙ t) (no_refusal (run_of h n l g)));
  }
  comes (d ∷ ds) l g gh gl ln = go (drawn (run_of h n l g) d) (turn h n ok l g d gh gl ln) (comes ds)
    where
      go : (c : Drawn) → Turn h n ok l g d c
          → ((l g : ℕ) → g ≤ h → g ≤ l → l < n → Comes l g (after (run_of h n l g) ds) (draws_taken (run_of h n l g) ds) (ending (run_of h n l g) ds))
          → Comes l g (after c.run ds) (taken_by c.answer d (draws_taken c.run ds)) (or_later c.answer (ending c.run ds))
      go _ (refuses_9 p) rest = rest l g gh gl ln
      go _ (refuses_10 p q) rest = rest l g gh gl ln
      go _ (takes p q r) rest =
          rw (is_taken _ d (draws_taken (run_of h n (l + 1) (g + d)) ds) (no_refusal (run_of h n (l + 1) (g + d))))
          (further l g d _ _ _ p q r (rest (l + 1) (g + d) (omega arith) (omega arith) (omega arith)))

  -- the answer to a draw, by where the run stands
  answers : (s : List ℕ) (ended : Bool) (d : ℕ) (c : Drawn) → ended ≡ is_over (run_of h n (length s) (ones s))
      → Turn h n ok (length s) (ones s) d c → AnswersDraw h n s ended d c.answer
  answers s ended d _ e (refuses_9 p) = record {
    by_9 = (λ q. no_bit d p, λ q. refl);
    by_10 = (λ q. absurd (omega (arith, ap first_of q)), λ q. absurd (no_bit d p q.0));
    else_taken = λ b q. absurd (no_bit d p b);
  }
  answers s ended d _ e (refuses_10 p t) = record {
    by_9 = (λ q. absurd (omega (arith, ap first_of q)), λ q. absurd (q (bit d p)));
    by_10 = (λ q. (bit d p, e ∙ t), λ q. refl);
    else_taken = λ b q. absurd (false≢true (sym q ∙ e ∙ t));
  }
  answers s ended d _ e (takes p q r) =
      let kind = no_refusal (run_of h n (length s + 1) (ones s + d)) in
      record {
        by_9 = (λ w. absurd (omega (arith, kind, ap kind_of w)), λ w. absurd (w (bit d p)));
        by_10 = (λ w. absurd (omega (arith, kind, ap kind_of w)), λ w. absurd (true≢false (sym w.1 ∙ e ∙ goes_on h n ok _ _ q r)));
        else_taken = λ b w. (q, omega arith, answer_says h n (length s + 1) (ones s + d));
      }

  -- ---- from a beginning

  module _ (ds : List ℕ) where
    start : Run
    start = run_of h n 0 0

    from_start : Comes 0 0 (after start ds) (draws_taken start ds) (ending start ds)
    unfolding start
    from_start = comes ds 0 0 (omega arith) (omega arith) (omega (arith, ok.below))

    stands_at : after start ds ≡ run_of h n (length (draws_taken start ds)) (ones (draws_taken start ds))
    stands_at = from_start.stands ∙ run_same (omega arith) (omega arith)

    ends_as : ending start ds ≡ answer_of (run_of h n (length (draws_taken start ds)) (ones (draws_taken start ds)))
    ends_as =
        from_start.if_going (goes_on h n ok 0 0 ok.from_1 (omega (arith, ok.from_1, ok.below)))
        ∙ ap answer_of stands_at

    answers_next : (d : ℕ) → AnswersDraw h n (draws_taken start ds) (is_ending (ending start ds)) d (drawn (after start ds) d).answer
    answers_next d =
        let c = from_start in
        rw stands_at
        (answers _ _ d _ (ap is_ending ends_as ∙ ending-over _)
        (turn h n ok _ _ d (omega (arith, c.few)) (omega (arith, c.fewer)) (omega (arith, c.early))))

pub stop_rule : StopTheorem
unfolding start
stop_rule h n ok ds =
    let begun-as = (one_call.begins h n).else_open ok in
    let first : (begun h n).run ≡ run_of h n 0 0 = ap (λ (o : Drawn). o.run) begun-as in
    record {
      begins = ap (λ (o : Drawn). o.answer) begun-as;
      answered = λ before d later e. rw first (answers_next h n ok before d);
      stands = rw first (stands_at h n ok ds);
      ends = rw (first, ends_as h n ok ds) (answer_says h n _ _);
    }

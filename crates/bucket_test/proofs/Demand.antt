-- Demand 3: the invariant over every list of draws, and what it says.
use mathlib.Core.Path.{◌≡◌, refl, sym, ap, ◌∙◌}
use mathlib.Core.Logic.{◌⊎◌, inl, inr}
use mathlib.Core.Bool.{Bool, true, false, not, ◌||◌, or-false}
use mathlib.Core.List.{List, [], ◌∷◌}
use Prim.Native.Nat.{ℕ, zero, suc, ◌*◌, ◌≤◌, ◌<◌}
use native.Mathlib.Omega.{arith}
use lib.ListN.{length}
use Rattle.walk.specs.Numbers.{le?}
use Rattle.walk.specs.Units.{wide}
use Rattle.walk.specs.Walk.{walk, NoWideBefore}
use Rattle.walk.specs.Strings.{Draws, last_step}
use Rattle.walk.proofs.Tests.{test, Le?, le, gt, clash}
use Rattle.walk.proofs.Chances.{meets_says, allowed_always, chances_by_rounding, chances}
use Rattle.walk.proofs.WalkFacts.{walk_facts}
use Rattle.walk.proofs.RecordLaws.{mark_nil, narrow_start}
use Rattle.refusals.specs.Refusals.{unless, first_refusal}
use Rattle.plan.specs.Plan.{threshold_at, spending_of, plan_refusal, Accepted}
use Rattle.bucket_choice.specs.Choice.{chosen_bucket}
use Rattle.bucket_test.specs.Words.{part_at, Stands}
use Rattle.bucket_test.specs.Turn.{record_at}
use Rattle.bucket_test.specs.Answers.{answer_of, is_ending, refusal_of}
use Rattle.bucket_test.specs.Draw.{Outcome, begin_refusal, begun_over, draw_refusal_over, draw_refusal, drawn_by, drawn_over}
use Rattle.bucket_test.specs.Carried.{carried_over, carried, has_ended, taken_by, taken}
use Rattle.bucket_test.specs.Demand3.{Marks, Excess, AnswersDraw, Answered, Demand3, Demand3Theorem}
use Rattle.plan.proofs.AcceptedLaws.{threshold_ok, spends, accepted}
use Rattle.bucket_test.proofs.AnsweringLaws.{rule_answers}
use Rattle.bucket_test.proofs.Beginning.{start_open}
use Rattle.bucket_test.proofs.OneThreshold.{marks_say, stands_at, excess_says}
use Rattle.bucket_test.proofs.Invariant.{mark_at, record_after, part_after, state_for, words_for, History, start_state_lem, start_words_lem, record_at_lem, mark_at_lem, part_at_lem, size_at, words_fit_lem, state_sound_lem, next_state_lem, next_words_lem, history_next}
use Rattle.bucket_test.specs.declared.State.{State}
use Rattle.plan.specs.declared.Plan.{Plan}
use Rattle.bucket_test.proofs.PartLaws.{words_say}
use Rattle.bucket_test.proofs.Refusing.{refused_stays}

-- the refusal that is due to a draw: 9, 10 or none
unfoldable pub due : ℕ → Bool → ℕ
due d ended = first_refusal (unless (le? d 1) 9 ∷ unless (not ended) 10 ∷ [])

-- .. where 1, 8 and 11 are none
due_alone : (bit going : Bool) → first_refusal (0 ∷ unless true 8 ∷ unless bit 9 ∷ unless going 10 ∷ unless true 11 ∷ [])
    ≡ first_refusal (unless bit 9 ∷ unless going 10 ∷ [])
due_alone true true = refl
due_alone true false = refl
due_alone false going = refl

-- ---- the three ways in which a draw is answered

bit_is : (d : ℕ) → d ≤ 1 → (d ≡ 0) ⊎ (d ≡ 1)
bit_is zero h = inl refl
bit_is (suc d) h = inr (omega arith)

no_bit : (d : ℕ) → 1 < d → ¬ ((d ≡ 0) ⊎ (d ≡ 1))
no_bit d h (inl z) = omega arith
no_bit d h (inr z) = omega arith

module _ (p : Plan) (d : ℕ) (ended : Bool) (o : Outcome) where
  answers_9 : refusal_of o.answer ≡ 9 → 1 < d → AnswersDraw p d ended o
  answers_9 e h = record {
    by_9 = (λ q. no_bit d h, λ q. e);
    by_10 = (λ q. absurd (omega (arith, sym e ∙ q)), λ q. absurd (no_bit d h q.0));
    by_no_other = inr (inl e);
    by_rule = λ q. absurd (omega (arith, sym e ∙ q));
  }

  answers_10 : refusal_of o.answer ≡ 10 → d ≤ 1 → ended ≡ true → AnswersDraw p d ended o
  answers_10 e h f = record {
    by_9 = (λ q. absurd (omega (arith, sym e ∙ q)), λ q. absurd (q (bit_is d h)));
    by_10 = (λ q. (bit_is d h, f), λ q. e);
    by_no_other = inr (inr e);
    by_rule = λ q. absurd (omega (arith, sym e ∙ q));
  }

  answers_rule : o.answer ≡ answer_of p o.state → d ≤ 1 → ended ≡ false → AnswersDraw p d ended o
  answers_rule e h f =
      let none : refusal_of o.answer ≡ 0 = ap refusal_of e ∙ rule_answers p o.state in
      record {
        by_9 = (λ q. absurd (omega (arith, sym none ∙ q)), λ q. absurd (q (bit_is d h)));
        by_10 = (λ q. absurd (omega (arith, sym none ∙ q)), λ q. clash (sym q.1 ∙ f));
        by_no_other = inl none;
        by_rule = λ q. e;
      }

module _ (p : Plan) (ok : Accepted p) (good : plan_refusal p ≡ 0) (words : List ℕ) (size : length words ≡ wide * p.count) where
  -- after the draws ds: state and words are those of the draws taken, whose history is sound, and the answer rule put to the state says
  -- whether an answer ended the test
  pub record Held (ds : List ℕ) : Type 0 where
    pub state_is : (carried p words ds).state ≡ state_for p (taken p words ds)
    pub words_is : (carried p words ds).words ≡ words_for p (taken p words ds)
    pub history : History p (taken p words ds)
    pub ended_is : is_ending (answer_of p (state_for p (taken p words ds))) ≡ has_ended p words ds
    pub answered : Answered p words ds

  -- ---- the beginning

  begin_accepted : begin_refusal p words ≡ 0
  unfolding begin_refusal
  begin_accepted = rw (good, (words_say p words).1 size)

  held_begin : Held []
  unfolding carried_over taken has_ended begun_over Answered
  held_begin = record {
    state_is = rw begin_accepted (start_state_lem p ok);
    words_is = rw begin_accepted (start_words_lem p ok);
    history = record {
      in-time = omega arith;
      narrow = λ i l. rw (mark_nil (threshold_at p i) (spending_of p i)) (narrow_start (threshold_at p i) (spending_of p i));
    };
    ended_is = rw (← (start_state_lem p ok), start_open p ok);
    answered = rw begin_accepted (start_open p ok);
  }

  -- ---- one more draw

  -- the refusal of a draw to a carried test is what is due
  refusal_is : (s : Draws) → History p s → (d : ℕ) → draw_refusal p (state_for p s) (words_for p s) d ≡ due d (is_ending (answer_of p (state_for p s)))
  unfolding draw_refusal_over due
  refusal_is s h d = rw (good, words_fit_lem p ok s h, state_sound_lem p ok s h) (due_alone (le? d 1) (not (is_ending (answer_of p (state_for p s)))))

  module _ (d : ℕ) (ds : List ℕ) (h : Held ds) where
    due_is : draw_refusal p (carried p words ds).state (carried p words ds).words d ≡ due d (has_ended p words ds)
    due_is = rw (h.state_is, h.words_is, refusal_is (taken p words ds) h.history d, h.ended_is)

    -- the call, with the refusal r that is due
    abbrev call : ℕ → Outcome
    call r = drawn_by chosen_bucket r p (carried p words ds).state (carried p words ds).words d

    -- the draws taken then
    abbrev next : ℕ → Draws
    next r = taken_by (refusal_of (call r).answer) d (taken p words ds)

    -- what it does, as `Held` of one draw more says it
    pub record Took (r : ℕ) : Type 0 where
      pub state_is : (call r).state ≡ state_for p (next r)
      pub words_is : (call r).words ≡ words_for p (next r)
      pub history : History p (next r)
      pub ended_is : is_ending (answer_of p (state_for p (next r))) ≡ (is_ending (call r).answer || has_ended p words ds)
      pub answers : AnswersDraw p d (has_ended p words ds) (call r)

    refused : (r : ℕ) → AnswersDraw p d (has_ended p words ds) (call (suc r)) → Took (suc r)
    refused r a = record {
      state_is = h.state_is;
      words_is = h.words_is;
      history = h.history;
      ended_is = h.ended_is;
      answers = a;
    }

    accepts : d ≤ 1 → has_ended p words ds ≡ false → Took 0
    accepts bit open_yet =
        let t : Draws = taken p words ds in
        let none : refusal_of (call 0).answer ≡ 0 = rule_answers p (call 0).state in
        let state : (call 0).state ≡ state_for p (le? 1 d ∷ t) = rw (h.state_is, h.words_is) (next_state_lem p ok t h.history d bit) in
        let next-words-are : (call 0).words ≡ words_for p (le? 1 d ∷ t) = rw (h.state_is, h.words_is) (next_words_lem p ok t h.history d bit) in
        record {
          state_is = rw none state;
          words_is = rw none next-words-are;
          history = rw none (history_next p ok t h.history d bit (h.ended_is ∙ open_yet));
          ended_is = rw (none, open_yet) (ap (λ (x : State). is_ending (answer_of p x)) (sym state) ∙ sym (or-false (is_ending (call 0).answer)));
          answers = answers_rule p d (has_ended p words ds) (call 0) refl bit open_yet;
        }

    took : Took (due d (has_ended p words ds))
    unfolding due
    took = go (le? d 1) (has_ended p words ds) (test d 1) refl
      where
        go : (x b : Bool) → Le? d 1 x → has_ended p words ds ≡ b → Took (first_refusal (unless x 9 ∷ unless (not b) 10 ∷ []))
        go false b (gt k) e = refused 8 (answers_9 p d (has_ended p words ds) (call 9) refl k)
        go true true (le k) e = refused 9 (answers_10 p d (has_ended p words ds) (call 10) refl k e)
        go true false (le k) e = accepts k e

    called : carried p words (d ∷ ds) ≡ call (due d (has_ended p words ds))
    unfolding carried_over drawn_over
    called = ap call due_is

    taken_cons : taken p words (d ∷ ds) ≡ taken_by (refusal_of (carried p words (d ∷ ds)).answer) d (taken p words ds)
    unfolding taken
    taken_cons = refl

    ended_cons : has_ended p words (d ∷ ds) ≡ (is_ending (carried p words (d ∷ ds)).answer || has_ended p words ds)
    unfolding has_ended
    ended_cons = refl

    held_more : Held (d ∷ ds)
    unfolding Answered
    held_more = record {
      state_is = rw (taken_cons, called) took.state_is;
      words_is = rw (taken_cons, called) took.words_is;
      history = rw (taken_cons, called) took.history;
      ended_is = rw (taken_cons, ended_cons, called) took.ended_is;
      answered = (rw called took.answers, h.answered);
    }

  -- after every list of draws
  pub held : (ds : List ℕ) → Held ds
  held [] = held_begin
  held (d ∷ ds) = held_more d ds (held ds)

  module _ (ds : List ℕ) where
    abbrev t : Draws
    t = taken p words ds

    -- a counted threshold
    module _ (i : ℕ) (l : i < p.count) where
      record_now : record_at (carried p words ds).state i ≡ record_after p t i
      record_now = rw (held ds).state_is (record_at_lem p ok t (held ds).history i l)

      mark_now : (record_at (carried p words ds).state i).mark ≡ mark_at p i t
      mark_now = rw (held ds).state_is (mark_at_lem p ok t (held ds).history i l)

      part_now_lem : part_at i (carried p words ds).words ≡ part_after p t i
      part_now_lem = rw (held ds).words_is (part_at_lem p ok t (held ds).history i l)

      marks_now : Marks (threshold_at p i) (spending_of p i) t (record_at (carried p words ds).state i).mark
      marks_now = rw mark_now (marks_say (threshold_at p i) (spending_of p i) (threshold_ok p ok i l) (spends p ok i l) t ((held ds).history.narrow i l))

      stands_now : Stands (walk (threshold_at p i) (spending_of p i) (last_step (record_at (carried p words ds).state i).mark (length t)))
          (record_at (carried p words ds).state i).walked (part_at i (carried p words ds).words)
      unfolding record_after part_after
      stands_now =
          rw (mark_now, record_now, part_now_lem)
          (stands_at (threshold_at p i) (spending_of p i) (threshold_ok p ok i l) (spends p ok i l) (mark_at p i t) (length t)
          (size_at p ok t (held ds).history i l))

      narrow_now : NoWideBefore (threshold_at p i) (spending_of p i) (last_step (record_at (carried p words ds).state i).mark (length t))
      narrow_now = rw mark_now ((held ds).history.narrow i l)

      excess_now : Excess (threshold_at p i) (spending_of p i) (last_step (record_at (carried p words ds).state i).mark (length t)) (length t)
          (record_at (carried p words ds).state i).walked
      excess_now =
          excess_says (threshold_at p i) (spending_of p i) (threshold_ok p ok i l) (spends p ok i l) t (record_at (carried p words ds).state i).mark
          (sym mark_now) narrow_now stands_now

    stays : (d : ℕ) → ¬ (refusal_of (carried p words (d ∷ ds)).answer ≡ 0)
        → ((carried p words (d ∷ ds)).state ≡ (carried p words ds).state) × ((carried p words (d ∷ ds)).words ≡ (carried p words ds).words)
    unfolding carried_over
    stays = refused_stays p (carried p words ds).state (carried p words ds).words

    pub demand_3_at : Demand3 p words ds
    unfolding state_for
    demand_3_at = record {
      answered = (held ds).answered;
      refused_stays = stays;
      n_is = rw (held ds).state_is;
      ones_is = rw (held ds).state_is;
      marks = marks_now;
      stands = stands_now;
      excess = excess_now;
      not_continued = narrow_now;
      facts = λ i l n. walk_facts (threshold_at p i) (threshold_ok p ok i l) (spending_of p i) (spends p ok i l) n;
      counted = λ i l s side. meets_says (threshold_at p i) (threshold_ok p ok i l) (spending_of p i) (spends p ok i l) s side;
      allowed = λ i l n side. allowed_always (threshold_at p i) (threshold_ok p ok i l) (spending_of p i) (spends p ok i l) side n;
      chances = λ i l n none side. chances_by_rounding (threshold_at p i) (threshold_ok p ok i l) (spending_of p i) (spends p ok i l) side n none;
      chances_by_steps = λ i l n none side. chances (threshold_at p i) (threshold_ok p ok i l) (spending_of p i) (spends p ok i l) side n none;
    }

-- demand 3, whole
pub demand_3 : Demand3Theorem
demand_3 p ok words size ds = demand_3_at p ok ((accepted p).1 ok) words size ds

-- What a draw on saved bytes returns and leaves, way out by way out (specs/Calls).
use mathlib.Core.Path.{◌≡◌, refl, sym, ap, ◌∙◌}
use mathlib.Core.Bool.{Bool, true, false, not}
use mathlib.Core.Logic.{◌⊎◌, inl, inr}
use mathlib.Core.List.{List, [], ◌∷◌}
use Prim.Native.Nat.{ℕ, zero, suc, ◌+◌, ◌≤◌, ◌<◌}
use native.Mathlib.Numerals.{add-one}
use native.Mathlib.Omega.{arith}
use Rattle.std.specs.Prelude.{Result, Ok, Err, IsErrAnd}
use Rattle.std.proofs.lemmas.Result.{err_from_is_err_and}
use Rattle.walk.specs.Numbers.{le?, lt?}
use Rattle.walk.specs.Units.{million}
use Rattle.walk.proofs.Tests.{le?_complete, le?_fails}
use Rattle.plan.specs.Places.{eq?}
use Rattle.refusals.specs.Refusals.{number_of, unless, first_refusal}
use Rattle.refusals.specs.declared.Refusal.{Refusal}
use Rattle.refusals.specs.declared.Refusal.TheVariants.{Counts, Thresholds, Allowances, Times, Buckets, Cover, Form, Words, Draw, Ended, Spoiled, Room, Run, TooClose, SavedForm, Points, PointsInForm}
use Rattle.refusals.proofs.RefusalLaws.{number_is}
use Rattle.plan.specs.Plan.{count_limit, plan_refusal}
use Rattle.plan.specs.declared.Plan.{Plan}
use Rattle.plan.proofs.PlaceLaws.{le_or_lt, any_cong, largest_cong, smallest_cong, first_one}
use Rattle.plan.proofs.AcceptedLaws.{accepted}
use Rattle.bucket_choice.specs.Choice.{chosen_bucket}
use Rattle.bucket_test.specs.Turn.{record_at}
use Rattle.bucket_test.specs.Answers.{low_of, high_of, any_wide, first_that_fits, answer_of, is_ending}
use Rattle.bucket_test.specs.Draw.{Outcome, state_sound, draw_refusal, next_state}
use Rattle.bucket_test.specs.declared.Answer.{Answer}
use Rattle.bucket_test.specs.declared.State.{State}
use Rattle.bucket_test.specs.declared.Threshold.{Threshold}
use Rattle.bucket_test.proofs.PartLaws.{words_say}
use Rattle.bucket_test.proofs.AnsweringLaws.{rule_with, rule_of}
use Rattle.bucket_test.proofs.DrawingLaws.{begin_words, draw_goes_on, drawn_by_lem, drawable}
use Rattle.little.specs.Little.{field}
use Rattle.saved_test.specs.Form.{draws_field}
use Rattle.saved_test.specs.Reading.{record_in, state_in, words_in, form_fits}
use Rattle.saved_test.proofs.HeldLaws.{record_held, words_held}
use Rattle.calls.specs.Calls.{answer_number, room_refusal, called_by, drawn_on}
use Rattle.calls.specs.Inner.{Hands, Seen, answer_by_standing, refusal_on, Ready, outcome, Took}
use Rattle.calls.specs.declared.Standing.{Standing}

-- ---- answers

-- the number of the answer rule's answer, with one of 16 buckets
pub rule_small : (p : Plan) (s : State) → p.buckets ≤ 16 → answer_number (answer_of p s) ≤ 140
rule_small p s most =
    let j = chosen_bucket p (low_of p s) (high_of p s) in
    rw (rule_with chosen_bucket p s) (go (lt? (high_of p s) (low_of p s)) j (le_or_lt p.buckets j) (any_wide p s) (eq? s.n p.horizon))
  where
    go : (c : Bool) (j : ℕ) → (p.buckets ≤ j) ⊎ (j < p.buckets) → (w e : Bool) → answer_number (first_that_fits c (lt? j p.buckets) j w e) ≤ 140
    go true j h w e = omega arith
    go false j (inl h) true e = rw (le?_fails (suc j) p.buckets (omega arith)) (omega arith)
    go false j (inl h) false true = rw (le?_fails (suc j) p.buckets (omega arith)) (omega arith)
    go false j (inl h) false false = rw (le?_fails (suc j) p.buckets (omega arith)) (omega arith)
    go false j (inr h) w e = rw (le?_complete (suc j) p.buckets h) (omega arith)

-- .. is from 100 on
pub rule_large : (p : Plan) (s : State) → 100 ≤ answer_number (answer_of p s)
rule_large p s =
    let j = chosen_bucket p (low_of p s) (high_of p s) in
    rw (rule_with chosen_bucket p s) (go (lt? (high_of p s) (low_of p s)) (lt? j p.buckets) j (any_wide p s) (eq? s.n p.horizon))
  where
    go : (c b : Bool) (j : ℕ) (w e : Bool) → 100 ≤ answer_number (first_that_fits c b j w e)
    go true b j w e = omega arith
    go false true j w e = omega arith
    go false false j true e = omega arith
    go false false j false true = omega arith
    go false false j false false = omega arith

-- the answer to a state whose records stand so
answer_seen : (p : Plan) (s : State) (records : ℕ → Threshold) → ((i : ℕ) → i < p.count → record_at s i ≡ records i) → (st : Standing)
    → Seen p p.count records st → (spent : Bool) → spent ≡ eq? s.n p.horizon → (a : Answer) → a ≡ answer_by_standing p st spent → a ≡ answer_of p s
unfolding low_of high_of any_wide
answer_seen p s records same st h spent e a is =
    is ∙ rule_of p s (h.low ∙ largest_cong p.count _ _ 0 (λ i l. rw (same i l))) (h.high ∙ smallest_cong p.count _ _ million (λ i l. rw (same i l)))
    (h.wide ∙ any_cong p.count _ _ (λ i l. rw (same i l))) e

-- .. that bytes hold
pub answer_held : (p : Plan) (bytes : List ℕ) → p.count ≤ count_limit → (st : Standing) → Seen p p.count (record_in bytes) st
    → (a : Answer) → a ≡ answer_by_standing p st (eq? (field 4 draws_field bytes) p.horizon) → a ≡ answer_of p (state_in p bytes)
unfolding state_in
answer_held p bytes few st h a is = answer_seen p (state_in p bytes) (record_in bytes) (record_held p bytes few) st h _ refl a is

-- ---- what inner calls hand back

number_small : (r : Refusal) → number_of r ≤ 140
number_small Counts = omega arith
number_small Thresholds = omega arith
number_small Allowances = omega arith
number_small Times = omega arith
number_small Buckets = omega arith
number_small Cover = omega arith
number_small Form = omega arith
number_small Words = omega arith
number_small Draw = omega arith
number_small Ended = omega arith
number_small Spoiled = omega arith
number_small Room = omega arith
number_small Run = omega arith
number_small TooClose = omega arith
number_small SavedForm = omega arith
number_small Points = omega arith
number_small PointsInForm = omega arith

-- a refusal of a call, which `?` hands on
pub hands_refusal : (p : Plan) (o : Outcome) (lent : List ℕ) (q : ℕ) (r : Refusal) → number_of r ≡ q
    → (x : Result Answer Refusal) → IsErrAnd x (λ f. f ≡ r) → Hands (called_by q p o lent) x lent
hands_refusal p o lent q r e x h =
    let k = err_from_is_err_and x h in
    rw (k.1, k.2) (record { number = (go q e).0; small = number_small r; bytes = (go q e).1 })
  where
    go : (q : ℕ) → number_of r ≡ q → (number_of r ≡ (called_by q p o lent).number) × (lent ≡ (called_by q p o lent).bytes)
    go zero e = let l = number_is r in absurd (omega (arith, e, l))
    go (suc q) e = (e, refl)

-- the answer rule's answer, and the form
pub hands_answer : (p : Plan) (o : Outcome) (lent after : List ℕ) → p.buckets ≤ 16 → (s : State) → o.answer ≡ answer_of p s → (a : Answer) → a ≡ o.answer
    → after ≡ (called_by 0 p o lent).bytes → Hands (called_by 0 p o lent) (Ok a) after
hands_answer p o lent after most s by_rule a is bytes = record {
  number = rw is;
  small = rw (is, by_rule) (rule_small p s most);
  bytes = bytes;
}

module _ (p : Plan) (bytes : List ℕ) (d : ℕ) where
  abbrev s : State
  s = state_in p bytes

  abbrev ws : List ℕ
  ws = words_in p bytes

  -- ---- what refuses a draw before its room is judged

  pub on_form : form_fits p bytes ≡ false → refusal_on p bytes d ≡ 15
  on_form e = rw e

  pub past_form : plan_refusal p ≡ 0 → form_fits p bytes ≡ true
      → refusal_on p bytes d
      ≡ first_refusal (unless (le? d 1) 9 ∷ unless (not (is_ending (answer_of p s))) 10 ∷ unless (state_sound p s ws) 11 ∷ [])
  past_form good e =
      let fits = (words_say p ws).1 (words_held p bytes) in
      rw e (first_one (draw_refusal p s ws d)) ∙ draw_goes_on p s ws d (sym (rw (begin_words p ws good, fits)))

  pub ready : refusal_on p bytes d ≡ 0 → Ready p bytes d
  ready e = let g = go (form_fits p bytes) (draw_refusal p s ws d) e in record { form = g.0; unrefused = g.1 }
    where
      go : (b : Bool) (r : ℕ) → first_refusal (unless b 15 ∷ r ∷ []) ≡ 0 → (b ≡ true) × (r ≡ 0)
      go true zero e = (refl, refl)
      go true (suc r) e = absurd (omega arith)
      go false r e = absurd (omega arith)

  module _ (lent : List ℕ) where
    -- such a refusal is the call's
    pub first_on : (r : Refusal) → number_of r ≡ refusal_on p bytes d
        → number_of r ≡ first_refusal (unless (form_fits p bytes) 15 ∷ draw_refusal p s ws d ∷ room_refusal p (outcome p bytes d) lent ∷ [])
    first_on r = go (unless (form_fits p bytes) 15) (draw_refusal p s ws d) (room_refusal p (outcome p bytes d) lent)
      where
        go : (a b c : ℕ) → number_of r ≡ first_refusal (a ∷ b ∷ []) → number_of r ≡ first_refusal (a ∷ b ∷ c ∷ [])
        go zero zero c e = let k = number_is r in absurd (omega (arith, e, k))
        go zero (suc b) c e = e
        go (suc a) b c e = e

    -- ---- a draw that only 12 can refuse

    module _ (j : Ready p bytes d) where
      drawn_room : (q : ℕ) → room_refusal p (outcome p bytes d) lent ≡ q → drawn_on 0 p bytes d lent ≡ called_by q p (outcome p bytes d) lent
      drawn_room q e = rw (j.form, j.unrefused, e, first_one q)

      module _ (after : List ℕ) where
        pub hands_room : (r : Refusal) → Took p bytes d lent (Err r) after → (x : Result Answer Refusal) → IsErrAnd x (λ f. f ≡ r) → Hands (drawn_on 0 p bytes d lent) x after
        hands_room r t x h =
            let same : after ≡ lent = t.written ∙ go (number_of r) refl in
            rw (drawn_room (number_of r) (sym t.refusal_is), same) (hands_refusal p (outcome p bytes d) lent (number_of r) r refl x h)
          where
            go : (q : ℕ) → number_of r ≡ q → (called_by q p (outcome p bytes d) lent).bytes ≡ lent
            go zero e = let k = number_is r in absurd (omega (arith, e, k))
            go (suc q) e = refl

        pub hands_taken : (st : Standing) → Took p bytes d lent (Ok st) after → (spent : Bool) → spent ≡ eq? (field 4 draws_field bytes + 1) p.horizon
            → (a : Answer) → a ≡ answer_by_standing p st spent → Hands (drawn_on 0 p bytes d lent) (Ok a) after
        unfolding next_state state_in
        hands_taken st t spent e a is =
            let next = next_state p s ws d in
            let drawn_is = drawn_by_lem p s ws d 0 j.unrefused in
            let by_rule : (outcome p bytes d).answer ≡ answer_of p next = ap (λ (o : Outcome). o.answer) drawn_is in
            let answer : a ≡ answer_of p next =
            answer_seen p next (record_at next) (λ i l. refl) st (rw drawn_is at t.standing) spent (e ∙ rw (add-one (field 4 draws_field bytes))) a is in
            let most = ((accepted p).0 (drawable p s ws d j.unrefused).good).buckets_range.1 in
            rw (drawn_room 0 (sym t.refusal_is)) (hands_answer p (outcome p bytes d) lent after most next by_rule a (answer ∙ sym by_rule) t.written)

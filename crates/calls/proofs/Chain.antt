-- The chain of calls follows the carried test (specs/Chain).
use mathlib.Core.Path.{◌≡◌, refl, sym, ap, ◌∙◌}
use mathlib.Core.Logic.{◌⊎◌, inl, inr, ⊎_elim}
use mathlib.Core.List.{List, [], ◌∷◌}
use Prim.Native.Nat.{ℕ, zero, suc, ◌*◌, ◌≤◌, ◌<◌}
use native.Mathlib.Omega.{arith}
use lib.ListN.{length, drop, length-replicate}
use lib.Seq.{take_at}
use Rattle.walk.specs.Units.{wide}
use Rattle.walk.proofs.Tests.{le?_complete, le?_fails}
use Rattle.plan.specs.Places.{eq?}
use Rattle.refusals.specs.Refusals.{first_refusal}
use Rattle.plan.specs.Plan.{Accepted}
use Rattle.plan.specs.declared.Plan.{Plan}
use Rattle.plan.proofs.PlaceLaws.{le_or_lt, eq?_complete, eq?_fails}
use Rattle.plan.proofs.AcceptedLaws.{accepted}
use Rattle.bucket_choice.specs.Choice.{chosen_bucket}
use Rattle.bucket_test.specs.Turn.{record_at}
use Rattle.bucket_test.specs.Answers.{answer_of, refusal_of}
use Rattle.bucket_test.specs.Draw.{Outcome, start_state, begun, draw_refusal, next_state, drawn_by, drawn}
use Rattle.bucket_test.specs.Carried.{carried_over, carried, has_ended}
use Rattle.bucket_test.specs.Demand3.{AnswersDraw, Answered}
use Rattle.bucket_test.specs.declared.State.{State}
use Rattle.bucket_test.specs.declared.Answer.{Answer}
use Rattle.bucket_test.specs.declared.Answer.TheVariants.{Open, Decided, Crossed, Wide, Spent, Refused}
use Rattle.bucket_test.proofs.AnsweringLaws.{rule_answers}
use Rattle.bucket_test.proofs.PartLaws.{words_say}
use Rattle.bucket_test.proofs.DrawingLaws.{begun_0, drawn_by_lem}
use Rattle.bucket_test.proofs.Demand.{demand_3}
use Rattle.little.proofs.LittleLaws.{field_left}
use Rattle.stored_plan.specs.Reading.{decoded}
use Rattle.saved_test.specs.Form.{size_field, record_offset, form_size, saved_size, saved_form}
use Rattle.saved_test.specs.Reading.{state_in, words_in}
use Rattle.saved_test.specs.RoundTrip.{Savable}
use Rattle.saved_test.proofs.Sizes.{form-length}
use Rattle.saved_test.proofs.Fields.{in_size}
use Rattle.saved_test.proofs.Judged.{Small, small, masses_cong}
use Rattle.saved_test.proofs.TestBack.{alike_back, form_fits_lem}
use Rattle.saved_test.proofs.RoundTrip.{same_bytes_hold}
use Rattle.resumed_test.specs.EverAfter.{AlikeAfter}
use Rattle.resumed_test.proofs.Simulation.{drawn_alike}
use Rattle.resumed_test.proofs.Demand.{carried_sound, carried_savable}
use Rattle.calls.specs.Calls.{answer_number, Called, room_refusal, called_by, own_words, called_begin, called_draw}
use Rattle.calls.specs.Chain.{Call, kept, unless12, saved_after, last_called, draws_kept, Returns, Returned, Follows, ChainTheorem}
use Rattle.calls.proofs.CallLaws.{rule_large}
use Rattle.calls.proofs.PlanRead.{plan-read}

-- ---- the number of a refused answer is that of the refusal

refusal_number : (a : Answer) (r : ℕ) → refusal_of a ≡ suc r → answer_number a ≡ suc r
refusal_number Open r e = absurd (omega arith)
refusal_number (Decided b) r e = absurd (omega arith)
refusal_number Crossed r e = absurd (omega arith)
refusal_number Wide r e = absurd (omega arith)
refusal_number Spent r e = absurd (omega arith)
refusal_number (Refused s) r e = e

-- what refuses a draw is the refusal of its answer
drawn_refusal : (p : Plan) (s : State) (words : List ℕ) (d : ℕ) → draw_refusal p s words d ≡ refusal_of (drawn p s words d).answer
drawn_refusal p s words d = rw (drawn_by_lem p s words d _ refl) (go (draw_refusal p s words d))
  where
    go : (r : ℕ) → r ≡ refusal_of (drawn_by chosen_bucket r p s words d).answer
    go zero = sym (rule_answers p (next_state p s words d))
    go (suc r) = refl

-- ---- a call by its refusal

-- tests that are alike have forms of one size, and give one call
module _ (p : Plan) (o o' : Outcome) (h : AlikeAfter p o o') where
  size_same : saved_size p o'.state ≡ saved_size p o.state
  size_same = ap (form_size p.count) (masses_cong (record_at o'.state) (record_at o.state) p.count h.alike.record_same)

  called_same : (lent : List ℕ) (r : ℕ) → called_by r p o' lent ≡ called_by r p o lent
  called_same lent zero = rw (h.answer_same, size_same, same_bytes_hold p o.state o.words o'.state o'.words h.alike)
  called_same lent (suc r) = refl

module _ (p : Plan) (o : Outcome) (lent : List ℕ) where
  -- what is kept: after an answer the form, where its numbers fit its header; after a refusal what there was
  kept_answer : (had : List ℕ) → Small p o.state → 100 ≤ answer_number o.answer
      → kept had (called_by 0 p o lent) ≡ saved_form p o.state o.words
  unfolding form_size record_offset
  kept_answer had f large =
      let form = saved_form p o.state o.words in
      let rest = drop (saved_size p o.state) lent in
      let len = form-length p o.state o.words in
      let size = in_size p o.state o.words f.count f.masses f.n f.ones f.offset f.size in
      rw (le?_complete 100 (answer_number o.answer) large, field_left 4 size_field form rest (omega arith) ∙ size)
      (take_at form rest (saved_size p o.state) len)

  kept_refusal : (had : List ℕ) (r : ℕ) → suc r < 100 → kept had (called_by (suc r) p o lent) ≡ had
  kept_refusal had r few = rw (le?_fails 100 (suc r) few)

-- ---- under a plan that is read

module _ (planBytes lent : List ℕ) (read : (decoded planBytes).refusal ≡ 0) where
  abbrev p : Plan
  p = (decoded planBytes).plan

  ok : Accepted p
  ok = plan-read planBytes read

  abbrev own : List ℕ
  own = own_words p

  own_size : length own ≡ wide * p.count
  own_size = length-replicate (wide * p.count) 0

  -- a beginning where there is room
  begin_is : saved_size p start_state ≤ length lent → called_begin planBytes lent ≡ called_by 0 p (begun p own) lent
  unfolding called_begin
  begin_is room =
      let begins = begun_0 p own ((accepted p).1 ok) ((words_say p own).1 own_size) in
      rw (read, ap (λ (o : Outcome). o.state) begins, le?_complete (saved_size p start_state) (length lent) room)

  abbrev test : List ℕ → Outcome
  test ds = carried p own ds

  abbrev form : List ℕ → List ℕ
  form ds = saved_form p (test ds).state (test ds).words

  numbers_small : (ds : List ℕ) → Small p (test ds).state
  numbers_small ds = small p (test ds).state (test ds).words ok (carried_sound p ok own own_size ds)

  answers_draw : (d : ℕ) (ds : List ℕ) → AnswersDraw p d (has_ended p own ds) (test (d ∷ ds))
  unfolding Answered
  answers_draw d ds = (demand_3 p ok own own_size (d ∷ ds)).answered.0

  -- a call on the form of the carried test: by the refusal of the carried test's answer, then by the room for its form
  module _ (ds : List ℕ) (d : ℕ) (more : List ℕ) where
    abbrev s : State
    s = state_in p (form ds)

    abbrev ws : List ℕ
    ws = words_in p (form ds)

    savable : Savable p (test ds).state (test ds).words
    savable = carried_savable p ok own own_size ds

    after : AlikeAfter p (test (d ∷ ds)) (drawn p s ws d)
    unfolding carried_over
    after = drawn_alike p (test ds).state (test ds).words s ws (alike_back p (test ds).state (test ds).words savable) d

    abbrev refusal : ℕ
    refusal = first_refusal (refusal_of (test (d ∷ ds)).answer ∷ room_refusal p (test (d ∷ ds)) more ∷ [])

    called_is : called_draw planBytes (form ds) d more ≡ called_by refusal p (test (d ∷ ds)) more
    unfolding called_draw
    called_is =
        rw (
          read,
          form_fits_lem p (test ds).state (test ds).words savable,
          drawn_refusal p s ws d ∙ ap refusal_of after.answer_same,
          size_same p (test (d ∷ ds)) (drawn p s ws d) after,
        ) (called_same p (test (d ∷ ds)) (drawn p s ws d) after more refusal)

  -- ---- one call more

  module _ (c : Call) (cs : List Call) (so_far : saved_after planBytes lent cs ≡ form (draws_kept planBytes lent cs)) where
    abbrev ds : List ℕ
    ds = draws_kept planBytes lent cs

    abbrev o : Outcome
    o = test (c.draw ∷ ds)

    abbrev last : Called
    last = last_called planBytes lent c cs

    -- what is claimed of it
    pub record Step : Type 0 where
      pub returns : Returns planBytes lent c cs o
      pub saved_is : kept (saved_after planBytes lent cs) last ≡ form (unless12 (eq? last.number 12) c.draw ds)

    -- it is the call of its refusal
    last_by : (r : ℕ) → refusal ds c.draw c.lent ≡ r → last ≡ called_by r p o c.lent
    last_by r q = rw so_far (called_is ds c.draw c.lent) ∙ ap (λ (k : ℕ). called_by k p o c.lent) q

    step_answer : refusal_of o.answer ≡ 0 → saved_size p o.state ≤ length c.lent → Step
    step_answer none room =
        let e = last_by 0 (rw (none, le?_complete (saved_size p o.state) (length c.lent) room)) in
        let a : o.answer ≡ answer_of p o.state = (answers_draw c.draw ds).by_rule none in
        let large : 100 ≤ answer_number o.answer = rw a (rule_large p o.state) in
        let n : last.number ≡ answer_number o.answer = ap (λ (k : Called). k.number) e in
        let other : ¬ (last.number ≡ 12) = λ q. omega arith in
        record {
          returns = record {
            by_12 = (λ q. absurd (other q), λ q. absurd (omega (arith, q.1)));
            else_answer = λ q. n;
            by_no_other = inl (omega arith);
            written = λ q. rw (form-length p o.state o.words) (ap (λ (k : Called). k.bytes) e);
            untouched = λ q. absurd (omega arith);
          };
          saved_is = rw (eq?_fails last.number 12 other, e) (kept_answer p o c.lent _ (numbers_small (c.draw ∷ ds)) large);
        }

    step_12 : refusal_of o.answer ≡ 0 → length c.lent < saved_size p o.state → Step
    step_12 none full =
        let e = last_by 12 (rw (none, le?_fails (saved_size p o.state) (length c.lent) full)) in
        let n : last.number ≡ 12 = ap (λ (k : Called). k.number) e in
        record {
          returns = record {
            by_12 = (λ q. (none, full), λ q. n);
            else_answer = λ q. absurd (q n);
            by_no_other = inr (inr (inr n));
            written = λ q. absurd (omega arith);
            untouched = λ q. ap (λ (k : Called). k.bytes) e;
          };
          saved_is = rw (eq?_complete last.number 12 n, e) (kept_refusal p o c.lent _ 11 (omega arith) ∙ so_far);
        }

    step_refusal : (r : ℕ) → refusal_of o.answer ≡ suc r → (suc r ≡ 9) ⊎ (suc r ≡ 10) → Step
    step_refusal r some which =
        let e = last_by (suc r) (rw some) in
        let few : suc r ≤ 10 = ⊎_elim (λ q. omega arith) (λ q. omega arith) which in
        let n : last.number ≡ suc r = ap (λ (k : Called). k.number) e in
        let other : ¬ (last.number ≡ 12) = λ q. omega arith in
        let stays = (demand_3 p ok own own_size ds).refused_stays c.draw (λ q. absurd (omega arith)) in
        record {
          returns = record {
            by_12 = (λ q. absurd (other q), λ q. absurd (omega (arith, q.0)));
            else_answer = λ q. n ∙ sym (refusal_number o.answer r some);
            by_no_other = inr (⊎_elim (λ q. inl (n ∙ q)) (λ q. inr (inl (n ∙ q))) which);
            written = λ q. absurd (omega arith);
            untouched = λ q. ap (λ (k : Called). k.bytes) e;
          };
          saved_is = rw (eq?_fails last.number 12 other, e, stays.0, stays.1) (kept_refusal p o c.lent _ r (omega arith) ∙ so_far);
        }

    step : Step
    step =
        ⊎_elim (λ q. ⊎_elim (step_answer q) (step_12 q) (le_or_lt (saved_size p o.state) (length c.lent)))
        (⊎_elim (λ q. step_refusal 8 q (inl refl)) (λ q. step_refusal 9 q (inr refl)))
        (answers_draw c.draw ds).by_no_other

  module _ (begin : called_begin planBytes lent ≡ called_by 0 p (begun p own) lent) where
    follows_none : Follows planBytes lent []
    unfolding saved_after draws_kept Returned carried_over Answered
    follows_none =
        let answer : (test []).answer ≡ Open = (demand_3 p ok own own_size []).answered in
        record {
          returned = (rw begin (ap answer_number answer), rw (begin, form-length p (test []).state (test []).words));
          saved_is = rw begin (kept_answer p (test []) lent [] (numbers_small []) (rw answer (omega arith)));
          demand = demand_3 p ok own own_size [];
        }

    follows : (cs : List Call) → Follows planBytes lent cs
    unfolding saved_after draws_kept Returned
    follows [] = follows_none
    follows (c ∷ cs) =
        let f = follows cs in
        let k = step c cs f.saved_is in
        record { returned = (k.returns, f.returned); saved_is = k.saved_is; demand = demand_3 p ok own own_size (draws_kept planBytes lent (c ∷ cs)) }

pub chain_holds : ChainTheorem
chain_holds planBytes lent read room = follows planBytes lent read (begin_is planBytes lent read room)

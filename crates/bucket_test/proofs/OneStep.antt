-- A draw that nothing refuses is one step by the rules, whatever state was handed in (specs/OneStep).
use mathlib.Core.Path.{◌≡◌, refl, ◌∙◌}
use mathlib.Core.Bool.{Bool, true, false, not}
use mathlib.Core.List.{List, [], ◌∷◌}
use mathlib.Core.Logic.{⊎_elim}
use Prim.Native.Nat.{ℕ, zero, suc, ◌+◌, ◌*◌, ◌-◌, ◌≤◌, ◌<◌}
use native.Mathlib.Omega.{arith}
use lib.ListN.{length, get_or-eq_default}
use Rattle.walk.specs.Numbers.{le?}
use Rattle.walk.specs.Units.{million, wide}
use Rattle.walk.specs.Spending.{IsSpending}
use Rattle.walk.specs.Walk.{Walk, step_walk}
use Rattle.walk.specs.Row.{Row, step_row}
use Rattle.walk.specs.Record.{first_above, row_of, record_of, is_wide, padded}
use Rattle.walk.specs.Facts.{as_walk, StepFacts}
use Rattle.walk.specs.declared.Mark.{Mark}
use Rattle.walk.specs.declared.Mark.TheVariants.{Open, Above, AtMost}
use Rattle.walk.specs.declared.Walked.{Walked}
use Rattle.walk.proofs.WalkFacts.{step_facts}
use Rattle.walk.proofs.SoundnessLaws.{padded-length, boundaries_say, IsSound, checked, narrow}
use Rattle.walk.proofs.RecordLaws.{judged_same, judged_on, judged_open}
use Rattle.refusals.specs.Refusals.{unless, first_refusal}
use Rattle.plan.specs.Plan.{threshold_at, spending_of, plan_refusal, Accepted}
use Rattle.bucket_test.specs.Words.{part_at, words_fit, Stands}
use Rattle.bucket_test.specs.Turn.{no_record, record_at, marked, walked_on, turn_record, turn_part}
use Rattle.bucket_test.specs.Answers.{answer_of, is_ending}
use Rattle.bucket_test.specs.Draw.{state_sound, draw_refusal_over, draw_refusal, next_state, next_words}
use Rattle.bucket_test.specs.OneStep.{MarkedAt, stepped_at, OneStep, OneStepTheorem}
use Rattle.bucket_test.specs.declared.Threshold.{Threshold}
use Rattle.bucket_test.specs.declared.State.{State}
use Rattle.plan.specs.declared.Plan.{Plan}
use Rattle.plan.proofs.PlaceLaws.{le_or_lt}
use Rattle.plan.proofs.PlaceLists.{over-length, over-get, over-drop, join_length}
use Rattle.plan.proofs.AcceptedLaws.{accepted, threshold_ok, spends}
use Rattle.bucket_test.proofs.PartLaws.{words_say, join_part}
use Rattle.bucket_test.proofs.TurningLaws.{part_length, stands}
use Rattle.bucket_test.proofs.DrawingLaws.{open_sound, sound_at, drawn_by_lem}
use Rattle.bucket_test.proofs.AnsweringLaws.{not_over, thin_at}

-- ---- an open threshold that refusal 11 lets through and that is not wide

module _ (a : ℕ) (threshold : a ≤ million) (E : ℕ → ℕ) (spends : IsSpending E) (n S : ℕ) (w : Walked) (part : List ℕ)
    (size : length part ≡ wide) (sound : IsSound (E n) n S w part) (thin : is_wide w ≡ false) where
  abbrev next : Row
  next = step_row a (E (suc n)) (row_of w part)

  held : w.upper - first_above w.lower ≤ length part
  held = omega (arith, (boundaries_say (E n) n S w sound.0).fits)

  -- by count, as the rules have it
  abbrev stepped : Walk
  stepped = step_walk a (E (suc n)) (suc n) (as_walk (row_of w part))

  facts : StepFacts a (E (suc n)) n (row_of w part)
  facts = (step_facts a threshold E spends n (row_of w part) (checked E n S w part held sound).sound).0

  next_stands : Stands stepped (record_of next) (padded next.masses)
  next_stands = stands facts.same (padded-length next.masses (omega (arith, narrow E n S w part held sound thin, facts.moves)))

  next_walks : (ones : ℕ)
      → Stands stepped (record_of next) (padded next.masses) × MarkedAt stepped (suc n) ones (marked (suc n) ones (record_of next))
  unfolding marked
  next_walks ones =
      let e = judged_same facts.same (suc n) ones in (
        next_stands,
        record {
          settles = λ side h. e ∙ judged_on (suc n) ones stepped.first stepped.upper (omega (arith, facts.same)) side h;
          else_open = λ h. e ∙ judged_open (suc n) ones stepped.first stepped.upper h;
        },
      )

-- ---- a draw that nothing refuses

-- what was judged
pub drawn_says : (p : Plan) (s : State) (ws : List ℕ) (d : ℕ) → draw_refusal p s ws d ≡ 0
    → (plan_refusal p ≡ 0) × (length ws ≡ wide * p.count) × (is_ending (answer_of p s) ≡ false) × (state_sound p s ws ≡ true)
unfolding draw_refusal_over
drawn_says p s ws d e =
    go (plan_refusal p) (words_fit p ws) (le? d 1) (is_ending (answer_of p s)) (state_sound p s ws) e (words_say p ws).0
  where
    go : {A : Type 0} (r : ℕ) (w b o t : Bool) → first_refusal (r ∷ unless w 8 ∷ unless b 9 ∷ unless (not o) 10 ∷ unless t 11 ∷ []) ≡ 0
        → (w ≡ true → A) → (r ≡ 0) × A × (o ≡ false) × (t ≡ true)
    go zero true true false true e f = (refl, f refl, refl, refl)
    go zero true true false false e f = absurd (omega arith)
    go zero true true true t e f = absurd (omega arith)
    go zero true false o t e f = absurd (omega arith)
    go zero false b o t e f = absurd (omega arith)
    go (suc r) w b o t e f = absurd (omega arith)

module _ (p : Plan) (s : State) (ws : List ℕ) (d : ℕ) where
  -- the turn of the threshold at place i, by its mark
  abbrev record_turned : ℕ → Mark → Threshold
  record_turned i m = turn_record (threshold_at p i) (spending_of p i (suc s.n)) (suc s.n) (s.ones + d) m (record_at s i) (part_at i ws)

  abbrev part_turned : ℕ → Mark → List ℕ
  part_turned i m = turn_part (threshold_at p i) (spending_of p i (suc s.n)) (suc s.n) (s.ones + d) m (record_at s i) (part_at i ws)

  module _ (good : plan_refusal p ≡ 0) (fits : length ws ≡ wide * p.count) (open_yet : is_ending (answer_of p s) ≡ false)
      (sound : state_sound p s ws ≡ true) where
    ok : Accepted p
    ok = (accepted p).0 good

    module _ (i : ℕ) (l : i < p.count) where
      pub size : length (part_at i ws) ≡ wide
      size = part_length ws p.count i fits l

      -- there is a record at each counted place: the boundaries of none are refused
      pub there : i < length s.records
      there = ⊎_elim (λ h. absurd (none h)) (λ h. h) (le_or_lt (length s.records) i)
        where
          none : length s.records ≤ i → ⊥
          none h =
              let b =
              open_sound (spending_of p i s.n) s.n s.ones no_record (part_at i ws)
              (rw (get_or-eq_default s.records no_record {n = i} h) at (sound_at p s ws good fits open_yet sound i l)) in
              omega (arith, (boundaries_say (spending_of p i s.n) s.n s.ones no_record.walked b.1.0).to)

      pub record_next : record_at (next_state p s ws d) i ≡ record_turned i (record_at s i).mark
      unfolding next_state
      record_next = over-get p.count _ s.records i no_record l there

      -- an open one walks
      open_walks : (record_at s i).mark ≡ Open
          → Stands (stepped_at p s ws i) (record_turned i Open).walked (part_turned i Open)
          × MarkedAt (stepped_at p s ws i) (suc s.n) (s.ones + d) (record_turned i Open).mark
      unfolding stepped_at walked_on
      open_walks is =
          next_walks (threshold_at p i) (threshold_ok p ok i l) (spending_of p i) (spends p ok i l) s.n s.ones
          (record_at s i).walked (part_at i ws) size
          (open_sound (spending_of p i s.n) s.n s.ones (record_at s i) (part_at i ws) (rw is at (sound_at p s ws good fits open_yet sound i l))).1
          (rw is at (thin_at p s (not_over p s open_yet).0 i l)) (s.ones + d)

      -- a settled one stays
      stays : (m : Mark) → ¬ (m ≡ Open) → (record_turned i m ≡ record_at s i) × (part_turned i m ≡ part_at i ws)
      stays Open n = absurd (n refl)
      stays (Above u) n = (refl, refl)
      stays (AtMost u) n = (refl, refl)

      pub size_next : length (part_turned i (record_at s i).mark) ≡ wide
      size_next = go (record_at s i).mark refl
        where
          go : (m : Mark) → (record_at s i).mark ≡ m → length (part_turned i m) ≡ wide
          go Open e = (open_walks e).0.size
          go (Above u) e = size
          go (AtMost u) e = size

    pub part_next : (i : ℕ) → i < p.count → part_at i (next_words p s ws d) ≡ part_turned i (record_at s i).mark
    unfolding next_words
    part_next = join_part (λ i. part_turned i (record_at s i).mark) p.count size_next

    one_step : OneStep p s ws d (record { answer = answer_of p (next_state p s ws d); state = next_state p s ws d; words = next_words p s ws d })
    unfolding next_state next_words
    one_step = record {
      n_is = refl;
      ones_is = refl;
      open_walks = λ i l e. rw (record_next i l, part_next i l, e) (open_walks i l e);
      settled_stays = λ i l n. rw (record_next i l, part_next i l) (stays i l (record_at s i).mark n);
      past_stays = over-drop p.count _ s.records;
      records_size = over-length p.count _ s.records;
      words_size = join_length (λ i. part_turned i (record_at s i).mark) wide p.count size_next;
      answer_is = refl;
    }

pub one_step_holds : OneStepTheorem
one_step_holds p s ws d e =
    let h = drawn_says p s ws d e in
    rw (drawn_by_lem p s ws d 0 e) (one_step p s ws d h.0 h.1 h.2 h.3)

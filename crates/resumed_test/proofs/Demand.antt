-- Demand 3 over power cuts (specs/Saves).
use mathlib.Core.Path.{◌≡◌, refl, sym, ap, ◌∙◌}
use mathlib.Core.Bool.{true}
use mathlib.Core.Logic.{◌⊎◌, inl, inr, ⊎_elim}
use mathlib.Core.List.{List, [], ◌∷◌, ◌++◌}
use Prim.Native.Nat.{ℕ, zero, suc, ◌*◌, ◌-◌, ◌≤◌, ◌<◌}
use native.Mathlib.Omega.{arith}
use lib.IntN.{ℤ}
use lib.ListN.{length, drop, get_or, replicate}
use lib.Seq.{ext_get_or, take_at}
use Rattle.walk.specs.Units.{wide, M, horizon_limit}
use Rattle.walk.specs.Walk.{lower, walk, first_at, upper_at}
use Rattle.walk.specs.Strings.{Upper, Lower, last_step}
use Rattle.walk.specs.declared.Mark.{Mark}
use Rattle.walk.specs.declared.Mark.TheVariants.{Open, Above, AtMost}
use Rattle.plan.specs.Places.{over_to}
use Rattle.plan.specs.Plan.{threshold_at, spending_of, Accepted}
use Rattle.bucket_test.specs.Words.{part_at, Stands}
use Rattle.bucket_test.specs.Turn.{record_at}
use Rattle.bucket_test.specs.Answers.{answer_of, refusal_of}
use Rattle.bucket_choice.specs.Choice.{chosen_bucket}
use Rattle.bucket_test.specs.Draw.{Outcome, draw_refusal, drawn_by, drawn, state_sound}
use Rattle.bucket_test.specs.Carried.{carried_over, carried, has_ended, taken}
use Rattle.bucket_test.specs.Demand3.{AnswersDraw, Answered, Demand3}
use Rattle.plan.specs.declared.Plan.{Plan}
use Rattle.bucket_test.specs.declared.State.{State}
use Rattle.walk.proofs.Tests.{le?_complete}
use Rattle.walk.proofs.Signed.{below_fits}
use Rattle.walk.proofs.Agreement.{in_order}
use Rattle.plan.proofs.AcceptedLaws.{accepted, threshold_ok, spends}
use Rattle.bucket_test.proofs.Refusing.{refused_stays}
use Rattle.bucket_test.proofs.DrawingLaws.{drawn_by_lem}
use Rattle.bucket_test.proofs.Invariant.{words_fit_lem, state_sound_lem}
use Rattle.bucket_test.proofs.Demand.{held, demand_3}
use Rattle.plan.proofs.PlaceLaws.{le_or_lt}
use Rattle.bucket_test.proofs.PartLaws.{words_say}
use Rattle.little.specs.Little.{filled}
use Rattle.little.proofs.FilledLaws.{filled-length, filled-get, filled_past}
use Rattle.saved_test.specs.Form.{form_limit, counts_between, live_by, mark_step, saved_size, saved_form}
use Rattle.saved_test.specs.Alike.{Alike}
use Rattle.saved_test.specs.Writing.{write_refusal, saved, bytes_after}
use Rattle.saved_test.specs.Reading.{state_in, words_in, Loaded, loaded, words_after}
use Rattle.saved_test.specs.RoundTrip.{Typed, Savable}
use Rattle.resumed_test.specs.Saves.{Move, Draw, Save, draws_of, Lends, kept_bytes, reading, reload_refusal, reloaded, moved, AnsweredOver, SavedSince, Recorded, last_walk, state_now, part_now, Demand3Saved, Demand3SavedTheorem}
use Rattle.saved_test.proofs.Sizes.{form-length}
use Rattle.saved_test.proofs.Judged.{save_says, gap_below, in-time, known_at, size_limit_lem}
use Rattle.saved_test.proofs.AlikeLaws.{sound_same, alike_trans}
use Rattle.resumed_test.proofs.Simulation.{SamePart, SameParts, drawn_alike, drawn_parts}
use Rattle.saved_test.proofs.TestBack.{alike_back, part_at_lem, not_refused}

-- a part whose words behind the live masses are zero is what a reading makes of those masses
fill_whole : (count size : ℕ) (f : ℕ → ℕ) (part : List ℕ) → length part ≡ size → count ≤ size → ((j : ℕ) → f j ≡ get_or part j 0)
    → ((j : ℕ) → count ≤ j → get_or part j 0 ≡ 0) → filled count f (replicate size 0) ≡ part
fill_whole count size f part len fits e zeros =
    ext_get_or 0 (filled count f (replicate size 0)) part (filled-length size count f ∙ sym len)
    (λ i h. ⊎_elim (λ k. filled_past size count f i k ∙ sym (zeros i k)) (λ k. filled-get size count f fits i k ∙ e i) (le_or_lt count i))

-- ---- a carried test can be saved

module _ (p : Plan) (ok : Accepted p) (words : List ℕ) (size : length words ≡ wide * p.count) (ds : List ℕ) where
  abbrev c : Outcome
  c = carried p words ds

  pub carried_sound : state_sound p c.state c.words ≡ true
  carried_sound =
      let h = held p ok ((accepted p).1 ok) words size ds in
      rw (h.state_is, h.words_is) (state_sound_lem p ok (taken p words ds) h.history)

  module _ (i : ℕ) (l : i < p.count) where
    abbrev mark_now : Mark
    mark_now = (record_at c.state i).mark

    -- the last step walked
    abbrev last : ℕ
    last = last_step mark_now (length (taken p words ds))

    last_early : last ≤ horizon_limit
    last_early =
        let n = (demand_3 p ok words size ds).n_is in
        let t = in-time p c.state c.words carried_sound in
        go mark_now (omega (arith, ok.horizon_range.1)) (known_at p c.state c.words carried_sound i l).step_small
      where
        go : (m : Mark) → c.state.n ≤ horizon_limit → mark_step m ≤ c.state.n → last_step m (length (taken p words ds)) ≤ horizon_limit
        go Open h k = rw (demand_3 p ok words size ds).n_is at h
        go (Above u) h k = omega arith
        go (AtMost u) h k = omega arith

    carried_typed : Typed (record_at c.state i).walked
    unfolding horizon_limit M lower first_at upper_at wide
    carried_typed =
        let d = demand_3 p ok words size ds in
        let w = d.stands i l in
        let facts = d.facts i l last in
        let early = last_early in
        let half = (spends p ok i l).half last in
        let order = in_order (threshold_at p i) (threshold_ok p ok i l) (spending_of p i) (spends p ok i l) last in
        record {
          lower_fits = rw w.lower_is (below_fits (walk (threshold_at p i) (spending_of p i) last).first (omega (arith, facts.top)));
          upper_fits = omega (arith, w.upper_is, facts.top);
          over_fits = omega (arith, w.over_is, facts.allowed Upper);
          under_fits = omega (arith, w.under_is, facts.allowed Lower);
        }

  carried_size : length c.words ≡ wide * p.count
  carried_size =
      let h = held p ok ((accepted p).1 ok) words size ds in
      rw h.words_is ((words_say p _).0 (words_fit_lem p ok (taken p words ds) h.history))

  pub carried_savable : Savable p c.state c.words
  carried_savable = record { accepted = (save_says p c.state c.words).1 ((accepted p).1 ok, (carried_size, carried_sound)); typed = carried_typed }

  -- a test that is alike can be saved ..
  module _ (s : State) (ws : List ℕ) (h : Alike p c.state c.words s ws) where
    savable : Savable p s ws
    savable = record {
      accepted = (save_says p s ws).1 ((accepted p).1 ok, (h.sizes.1, sound_same p c.state c.words s ws h ∙ carried_sound));
      typed = λ i l. rw (h.record_same i l) (carried_typed i l);
    }

    abbrev form : List ℕ
    form = saved_form p s ws

    -- .. and what is read is alike too
    back_alike : Alike p c.state c.words (state_in p form) (words_in p form)
    back_alike = alike_trans p c.state c.words s ws (state_in p form) (words_in p form) h (alike_back p s ws savable)

    module _ (i : ℕ) (l : i < p.count) where
      abbrev filled_part : Mark → List ℕ
      filled_part m = filled (live_by m (record_at c.state i).walked) (λ j. get_or (part_at i ws) j 0) (replicate wide 0)

      back_is : part_at i (words_in p form) ≡ filled_part (record_at c.state i).mark
      back_is = part_at_lem p s ws savable i l ∙ rw (h.record_same i l)

      -- an open threshold's part, which has zeros behind its live masses
      open_part : (record_at c.state i).mark ≡ Open → part_at i ws ≡ part_at i c.words → filled_part Open ≡ part_at i c.words
      unfolding lower
      open_part e q =
          let n = length (taken p words ds) in
          let w = rw e at ((demand_3 p ok words size ds).stands i l) in
          let first = (walk (threshold_at p i) (spending_of p i) n).first in
          let r = (record_at c.state i).walked in
          let g : counts_between r.lower r.upper ≡ r.upper - first = ap (λ (z : ℤ). counts_between z r.upper) w.lower_is ∙ gap_below first r.upper in
          fill_whole (counts_between r.lower r.upper) wide _ (part_at i c.words) w.size (omega (arith, g, w.fits, w.upper_is))
          (λ j. rw q) (λ j k. w.zeros j (omega (arith, g, w.upper_is)))

      settled_part : (m : Mark) → ¬ (m ≡ Open) → filled_part m ≡ replicate wide 0
      unfolding filled over_to
      settled_part Open n = absurd (n refl)
      settled_part (Above u) n = refl
      settled_part (AtMost u) n = refl

    -- `Since`, or now: every step that a mark names was taken by now
    abbrev OrNow : (ℕ → Type 0) → ℕ → Type 0
    OrNow Since t = (t ≤ length (taken p words ds)) ⊎ Since t

    back_parts : (Since : ℕ → Type 0) → SameParts Since p c.state c.words ws → SameParts (OrNow Since) p c.state c.words (words_in p form)
    back_parts Since same i l = go (record_at c.state i).mark refl (same i l)
      where
        taken_step : mark_step (record_at c.state i).mark ≤ length (taken p words ds)
        taken_step = omega (arith, (demand_3 p ok words size ds).n_is, (known_at p c.state c.words carried_sound i l).step_small)

        settled_back : (m : Mark) → (record_at c.state i).mark ≡ m → ¬ (m ≡ Open)
            → (¬ ((record_at c.state i).mark ≡ Open)) × OrNow Since (mark_step (record_at c.state i).mark) × (part_at i (words_in p form) ≡ replicate wide 0)
        settled_back m e n = (λ q. n (sym e ∙ q), inl taken_step, back_is i l ∙ rw e (settled_part i l m n))

        go : (m : Mark) → (record_at c.state i).mark ≡ m → SamePart Since (record_at c.state i).mark (part_at i c.words) (part_at i ws)
            → SamePart (OrNow Since) (record_at c.state i).mark (part_at i c.words) (part_at i (words_in p form))
        go Open e (inl q) = inl (back_is i l ∙ rw e (open_part i l e q))
        go Open e (inr q) = absurd (q.0 e)
        go (Above u) e k = inr (settled_back (Above u) e (λ q. let z : ◌≡◌ {A = ℕ} 0 1 = cc in omega arith))
        go (AtMost u) e k = inr (settled_back (AtMost u) e (λ q. let z : ◌≡◌ {A = ℕ} 0 1 = cc in omega arith))

    -- the save is not refused: the form is written and kept, and what it holds is read
    module _ (bytes lent : List ℕ) (room : form_limit ≤ length bytes) (fits : length lent ≡ wide * p.count) where
      written : (saved p s ws bytes ≡ record { refusal = 0; size = saved_size p s }) × (bytes_after p s ws bytes ≡ form ++ drop (saved_size p s) bytes)
      unfolding saved bytes_after write_refusal
      written =
          rw (savable.accepted, le?_complete (saved_size p s) (length bytes) (omega (arith, size_limit_lem p s ws savable.accepted))) (refl, refl)

      kept_is : kept_bytes p s ws bytes lent ≡ form
      kept_is = rw (written.0, written.1) (take_at form (drop (saved_size p s) bytes) (saved_size p s) (form-length p s ws))

      read_is : (reading p s ws bytes lent ≡ record { refusal = 0; state = state_in p form }) × (words_after p (kept_bytes p s ws bytes lent) lent ≡ words_in p form)
      unfolding loaded words_after
      read_is = rw (kept_is, not_refused p s ws savable lent fits) (refl, refl)

      reload_none : reload_refusal p s ws bytes lent ≡ 0
      unfolding reload_refusal
      reload_none = rw (read_is.0, written.0)

      reloaded_is : ((reloaded p s ws bytes lent).state ≡ state_in p form) × ((reloaded p s ws bytes lent).words ≡ words_in p form)
      unfolding reloaded
      reloaded_is = (ap (λ (k : Loaded). k.state) read_is.0, read_is.1)

-- ---- every list of draws and saves

-- a draw that is not refused is answered by the rule
drawn_by_rule : (p : Plan) (s : State) (ws : List ℕ) (d : ℕ) → refusal_of (drawn p s ws d).answer ≡ 0 → (drawn p s ws d).answer ≡ answer_of p (drawn p s ws d).state
drawn_by_rule p s ws d = rw (drawn_by_lem p s ws d _ refl) (go (draw_refusal p s ws d))
  where
    go : (r : ℕ) → refusal_of (drawn_by chosen_bucket r p s ws d).answer ≡ 0
        → (drawn_by chosen_bucket r p s ws d).answer ≡ answer_of p (drawn_by chosen_bucket r p s ws d).state
    go zero e = refl
    go (suc r) e = absurd (omega arith)

module _ (p : Plan) (ok : Accepted p) (words : List ℕ) (size : length words ≡ wide * p.count) where
  abbrev c' : List Move → Outcome
  c' ms = carried p words (draws_of ms)

  pub record Together (ms : List Move) : Type 0 where
    pub alike : Alike p (c' ms).state (c' ms).words (moved p words ms).state (moved p words ms).words
    pub parts : SameParts (SavedSince p words ms) p (c' ms).state (c' ms).words (moved p words ms).words
    pub answered : AnsweredOver p words ms

  -- one move more
  moved_none : moved p words [] ≡ carried p words []
  unfolding moved carried_over
  moved_none = refl

  carried_draw : (d : ℕ) (ds : List ℕ) → carried p words (d ∷ ds) ≡ drawn p (carried p words ds).state (carried p words ds).words d
  unfolding carried_over
  carried_draw d ds = refl

  moved_draw : (d : ℕ) (ms : List Move) → moved p words (Draw d ∷ ms) ≡ drawn p (moved p words ms).state (moved p words ms).words d
  unfolding moved
  moved_draw d ms = refl

  moved_save : (bytes lent : List ℕ) (ms : List Move)
      → moved p words (Save bytes lent ∷ ms) ≡ reloaded p (moved p words ms).state (moved p words ms).words bytes lent
  unfolding moved
  moved_save bytes lent ms = refl

  -- a draw is answered as demand 3 says, where it is answered as the carried test
  answers : (d : ℕ) (ms : List Move)
      → (drawn p (moved p words ms).state (moved p words ms).words d).answer ≡ (drawn p (c' ms).state (c' ms).words d).answer
      → AnswersDraw p d (has_ended p words (draws_of ms)) (moved p words (Draw d ∷ ms))
  unfolding Answered
  answers d ms e =
      let a = (demand_3 p ok words size (d ∷ draws_of ms)).answered.0 in
      let same = ap (λ (o : Outcome). o.answer) (moved_draw d ms) ∙ e ∙ ap (λ (o : Outcome). o.answer) (sym (carried_draw d (draws_of ms))) in
      record {
        by_9 = rw same a.by_9;
        by_10 = rw same a.by_10;
        by_no_other = rw same a.by_no_other;
        by_rule = rw (moved_draw d ms) (drawn_by_rule p (moved p words ms).state (moved p words ms).words d);
      }

  -- at the beginning, after a draw, after a save
  together_begun : Together []
  unfolding draws_of AnsweredOver Answered
  together_begun =
      let z = carried_size p ok words size [] in
      record {
        alike = rw moved_none record { n_same = refl; ones_same = refl; record_same = λ i l. refl; masses_same = λ i l. refl; sizes = (z, z) };
        parts = rw moved_none (λ i l. inl refl);
        answered = ap (λ (o : Outcome). o.answer) moved_none ∙ (demand_3 p ok words size []).answered;
      }

  together_drawn : (d : ℕ) (ms : List Move) → Together ms → Together (Draw d ∷ ms)
  unfolding draws_of AnsweredOver SavedSince
  together_drawn d ms t =
      let k = drawn_alike p _ _ _ _ t.alike d in
      record {
        alike = rw (moved_draw d ms, carried_draw d (draws_of ms)) k.alike;
        parts = rw (moved_draw d ms, carried_draw d (draws_of ms)) (drawn_parts p _ _ _ _ t.alike d (SavedSince p words ms) t.parts);
        answered = (answers d ms k.answer_same, rw (moved_draw d ms, carried_draw d (draws_of ms)) k.answer_same, t.answered);
      }

  together_saved : (bytes lent : List ℕ) (ms : List Move) → form_limit ≤ length bytes → length lent ≡ wide * p.count → Together ms → Together (Save bytes lent ∷ ms)
  unfolding draws_of AnsweredOver SavedSince
  together_saved bytes lent ms room fits t =
      let s = (moved p words ms).state in
      let ws = (moved p words ms).words in
      let z = reloaded_is p ok words size (draws_of ms) s ws t.alike bytes lent room fits in
      record {
        alike = rw (moved_save bytes lent ms, z.0, z.1) (back_alike p ok words size (draws_of ms) s ws t.alike);
        parts = rw (moved_save bytes lent ms, z.1) (back_parts p ok words size (draws_of ms) s ws t.alike (SavedSince p words ms) t.parts);
        answered = (reload_none p ok words size (draws_of ms) s ws t.alike bytes lent room fits, t.answered);
      }

  together : (ms : List Move) → Lends p ms → Together ms
  unfolding Lends
  together [] lends = together_begun
  together (Draw d ∷ ms) lends = together_drawn d ms (together ms lends)
  together (Save bytes lent ∷ ms) lends = together_saved bytes lent ms lends.0 lends.1 (together ms lends.2)

-- what demand 3 says of the carried test, of the test at hand
module _ (p : Plan) (ok : Accepted p) (words : List ℕ) (size : length words ≡ wide * p.count) (ms : List Move) (t : Together p ok words size ms) where
  abbrev d : Demand3 p words (draws_of ms)
  d = demand_3 p ok words size (draws_of ms)

  module _ (i : ℕ) (l : i < p.count) where
    recorded_now : Recorded p words (last_walk p words ms i) (record_at (state_now p words ms) i).walked
    recorded_now =
        let s = d.stands i l in
        rw (t.alike.record_same i l) record { lower_is = s.lower_is; upper_is = s.upper_is; over_is = s.over_is; under_is = s.under_is; rounded_is = s.rounded_is }

    stands_now : (Stands (last_walk p words ms i) (record_at (state_now p words ms) i).walked (part_now p words ms i))
        ⊎ ((¬ ((record_at (state_now p words ms) i).mark ≡ Open)) × SavedSince p words ms (mark_step (record_at (state_now p words ms) i).mark)
        × (part_now p words ms i ≡ replicate wide 0))
    stands_now = rw (t.alike.record_same i l) (⊎_elim (λ e. inl (rw e (d.stands i l))) (λ e. inr e) (t.parts i l))

  whole : Demand3Saved p words ms
  whole = record {
    alone = d;
    answered = t.answered;
    refused_stays = λ x. rw (moved_draw p ok words size x ms) (refused_stays p (state_now p words ms) (moved p words ms).words x);
    n_is = t.alike.n_same ∙ d.n_is;
    ones_is = t.alike.ones_same ∙ d.ones_is;
    marks = λ i l. rw (t.alike.record_same i l) (d.marks i l);
    recorded = recorded_now;
    excess = λ i l. rw (t.alike.record_same i l) (d.excess i l);
    stands = stands_now;
    same_test = t.alike;
  }

pub demand_3_saved : Demand3SavedTheorem
demand_3_saved p ok words size ms lends = whole p ok words size ms (together p ok words size ms lends)

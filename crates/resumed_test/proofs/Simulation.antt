-- Tests that are alike are refused alike, answer alike, and are alike after a draw (specs/EverAfter: Simulation).
use mathlib.Core.Path.{◌≡◌, refl, sym, ap, ◌∙◌}
use mathlib.Core.Logic.{◌⊎◌, inl, inr}
use mathlib.Core.List.{List, [], ◌∷◌}
use Prim.Native.Nat.{ℕ, zero, suc, ◌+◌, ◌<◌}
use lib.ListN.{take, replicate}
use Rattle.walk.specs.Units.{wide}
use Rattle.walk.specs.declared.Mark.{Mark}
use Rattle.walk.specs.declared.Mark.TheVariants.{Open, Above, AtMost}
use Rattle.plan.specs.Plan.{threshold_at, spending_of}
use Rattle.bucket_test.specs.Words.{part_at}
use Rattle.bucket_test.specs.Turn.{record_at, turn_record, turn_part, record_turn, part_turn}
use Rattle.bucket_choice.specs.Choice.{chosen_bucket}
use Rattle.bucket_test.specs.Draw.{Outcome, draw_refusal_over, draw_refusal, next_state, next_words, drawn_by, drawn}
use Rattle.plan.specs.declared.Plan.{Plan}
use Rattle.bucket_test.specs.declared.Threshold.{Threshold}
use Rattle.bucket_test.specs.declared.State.{State}
use Rattle.bucket_test.proofs.OneStep.{drawn_says, record_next, part_next, one_step_holds}
use Rattle.bucket_test.proofs.DrawingLaws.{drawn_by_lem}
use Rattle.saved_test.specs.Form.{live_by, mark_step}
use Rattle.saved_test.specs.Alike.{live_masses, Alike}
use Rattle.saved_test.proofs.AlikeLaws.{row_same, answer_same, words_same, sound_same}
use Rattle.resumed_test.specs.EverAfter.{drawn_after, AlikeAfter, Simulation}

-- of an open threshold all 769 words are the same; of a settled one they are the same or, where `Since` holds of its step, zeros
abbrev pub SamePart : (ℕ → Type 0) → Mark → List ℕ → List ℕ → Type 0
SamePart Since m part part' = (part' ≡ part) ⊎ ((¬ (m ≡ Open)) × Since (mark_step m) × (part' ≡ replicate wide 0))

abbrev pub SameParts : (ℕ → Type 0) → Plan → State → List ℕ → List ℕ → Type 0
SameParts Since p s words words' = (i : ℕ) → i < p.count → SamePart Since (record_at s i).mark (part_at i words) (part_at i words')

-- ---- one threshold

module _ (t : Threshold) (part part' : List ℕ) where
  -- by its mark: the same record after its turn, and after it the same live masses
  module _ (a e n S : ℕ) where
    pub turn_by : (m : Mark) → take (live_by m t.walked) part' ≡ take (live_by m t.walked) part
        → turn_record a e n S m t part' ≡ turn_record a e n S m t part
    turn_by Open h = rw (row_same t.walked part part' h)
    turn_by (Above u) h = refl
    turn_by (AtMost u) h = refl

    live_by_lem : (m : Mark) → t.mark ≡ m → take (live_by m t.walked) part' ≡ take (live_by m t.walked) part
        → live_masses (turn_record a e n S m t part) (turn_part a e n S m t part')
        ≡ live_masses (turn_record a e n S m t part) (turn_part a e n S m t part)
    live_by_lem Open q h = rw (row_same t.walked part part' h)
    live_by_lem (Above u) q h = rw q
    live_by_lem (AtMost u) q h = rw q

-- ---- a test

module _ (p : Plan) (s : State) (words : List ℕ) (s' : State) (words' : List ℕ) (h : Alike p s words s' words') where
  module _ (d : ℕ) where
    pub refusal_same : draw_refusal p s' words' d ≡ draw_refusal p s words d
    unfolding draw_refusal_over
    refusal_same = rw (words_same p s words s' words' h, answer_same p s words s' words' h, sound_same p s words s' words' h)

    -- a draw that nothing refuses
    module _ (none : draw_refusal p s words d ≡ 0) where
      none' : draw_refusal p s' words' d ≡ 0
      none' = refusal_same ∙ none

      module _ (i : ℕ) (l : i < p.count) where
        abbrev t : Threshold
        t = record_at s i

        abbrev live : Type 0
        live = live_masses t (part_at i words') ≡ live_masses t (part_at i words)

        turned : record_turn p words' (suc s'.n) (s'.ones + d) i (record_at s' i) ≡ record_turn p words (suc s.n) (s.ones + d) i (record_at s i)
        turned =
            rw (h.record_same i l, h.n_same, h.ones_same)
            (turn_by t (part_at i words) (part_at i words') (threshold_at p i) (spending_of p i (suc s.n)) (suc s.n) (s.ones + d) t.mark
            (h.masses_same i l))

        record_is : record_at (next_state p s words d) i ≡ record_turn p words (suc s.n) (s.ones + d) i (record_at s i)
        record_is = let k = drawn_says p s words d none in record_next p s words d k.0 k.1 k.2 k.3 i l

        part_is : part_at i (next_words p s words d) ≡ part_turn p words (suc s.n) (s.ones + d) i (record_at s i)
        part_is = let k = drawn_says p s words d none in part_next p s words d k.0 k.1 k.2 k.3 i l

        pub part_is' : part_at i (next_words p s' words' d) ≡ part_turn p words' (suc s.n) (s.ones + d) i (record_at s i)
        part_is' =
            let k = drawn_says p s' words' d none' in
            part_next p s' words' d k.0 k.1 k.2 k.3 i l ∙ rw (h.record_same i l, h.n_same, h.ones_same)

        next_record : record_at (next_state p s' words' d) i ≡ record_at (next_state p s words d) i
        next_record = let k = drawn_says p s' words' d none' in record_next p s' words' d k.0 k.1 k.2 k.3 i l ∙ turned ∙ sym record_is

        next_live : live_masses (record_at (next_state p s words d) i) (part_at i (next_words p s' words' d))
            ≡ live_masses (record_at (next_state p s words d) i) (part_at i (next_words p s words d))
        next_live =
            rw (record_is, part_is, part_is')
            (live_by_lem t (part_at i words) (part_at i words') (threshold_at p i) (spending_of p i (suc s.n)) (suc s.n) (s.ones + d) t.mark refl
            (h.masses_same i l))

      next_alike : Alike p (next_state p s words d) (next_words p s words d) (next_state p s' words' d) (next_words p s' words' d)
      next_alike =
          let o = rw (drawn_by_lem p s words d 0 none) at (one_step_holds p s words d none) in
          let o' = rw (drawn_by_lem p s' words' d 0 none') at (one_step_holds p s' words' d none') in
          record {
            n_same = o'.n_is ∙ ap suc h.n_same ∙ sym o.n_is;
            ones_same = o'.ones_is ∙ ap (λ (k : ℕ). k + d) h.ones_same ∙ sym o.ones_is;
            record_same = next_record;
            masses_same = next_live;
            sizes = (o.words_size, o'.words_size);
          }

      -- the words of an open threshold are those of its step, whole; a settled one keeps its own
      next_parts : (Since : ℕ → Type 0) → SameParts Since p s words words'
          → SameParts Since p (next_state p s words d) (next_words p s words d) (next_words p s' words' d)
      next_parts Since same i l = go (t i l).mark refl (same i l)
        where
          go : (m : Mark) → (record_at s i).mark ≡ m → SamePart Since (record_at s i).mark (part_at i words) (part_at i words')
              → SamePart Since (record_at (next_state p s words d) i).mark (part_at i (next_words p s words d)) (part_at i (next_words p s' words' d))
          go Open e k = inl (part_is' i l ∙ (rw (e, row_same (t i l).walked (part_at i words) (part_at i words') (rw e at (h.masses_same i l)))) ∙ sym (part_is i l))
          go (Above u) e (inl q) = inl (part_is' i l ∙ (rw (e, q)) ∙ sym (part_is i l))
          go (Above u) e (inr q) = inr (rw (record_is i l, e) q.0, rw (record_is i l, e) q.1, part_is' i l ∙ rw e q.2)
          go (AtMost u) e (inl q) = inl (part_is' i l ∙ (rw (e, q)) ∙ sym (part_is i l))
          go (AtMost u) e (inr q) = inr (rw (record_is i l, e) q.0, rw (record_is i l, e) q.1, part_is' i l ∙ rw e q.2)

-- ---- a draw of any value, and lists of draws

module _ (p : Plan) (s : State) (words : List ℕ) (s' : State) (words' : List ℕ) (h : Alike p s words s' words') (d : ℕ) where
  pub drawn_alike : AlikeAfter p (drawn p s words d) (drawn p s' words' d)
  drawn_alike =
      rw (drawn_by_lem p s words d _ refl, drawn_by_lem p s' words' d _ (refusal_same p s words s' words' h d)) (go (draw_refusal p s words d) refl)
    where
      go : (r : ℕ) → draw_refusal p s words d ≡ r → AlikeAfter p (drawn_by chosen_bucket r p s words d) (drawn_by chosen_bucket r p s' words' d)
      go zero e = let k = next_alike p s words s' words' h d e in record { answer_same = answer_same p _ _ _ _ k; alike = k }
      go (suc r) e = record { answer_same = refl; alike = h }

  abbrev Parts : (ℕ → Type 0) → Outcome → Outcome → Type 0
  Parts Since o o' = SameParts Since p o.state o.words o'.words

  pub drawn_parts : (Since : ℕ → Type 0) → SameParts Since p s words words' → Parts Since (drawn p s words d) (drawn p s' words' d)
  drawn_parts Since same =
      rw (drawn_by_lem p s words d _ refl, drawn_by_lem p s' words' d _ (refusal_same p s words s' words' h d)) (go (draw_refusal p s words d) refl)
    where
      go : (r : ℕ) → draw_refusal p s words d ≡ r → Parts Since (drawn_by chosen_bucket r p s words d) (drawn_by chosen_bucket r p s' words' d)
      go zero e = next_parts p s words s' words' h d e Since same
      go (suc r) e = same

pub simulation : Simulation
unfolding drawn_after
simulation p o o' h [] = h
simulation p o o' h (d ∷ ds) = let k = simulation p o o' h ds in drawn_alike p _ _ _ _ k.alike d

-- State and words of a carried test are what the walks and the draws taken say; 8 and 11 never refuse them; one more draw.
use mathlib.Core.Path.{◌≡◌, sym, ap, ◌∙◌}
use mathlib.Core.Bool.{Bool, true, false}
use mathlib.Core.List.{List, [], ◌∷◌}
use Prim.Native.Nat.{ℕ, suc, ◌+◌, ◌≤◌, ◌<◌}
use native.Mathlib.Omega.{arith}
use lib.ListN.{length, replicate, length-replicate}
use Rattle.walk.specs.Numbers.{le?}
use Rattle.walk.specs.Units.{wide}
use Rattle.walk.specs.Walk.{NoWideBefore}
use Rattle.walk.specs.Row.{rows}
use Rattle.walk.specs.Strings.{Draws, ones, last_step}
use Rattle.walk.specs.declared.Mark.{Mark}
use Rattle.walk.specs.declared.Mark.TheVariants.{Open}
use Rattle.walk.proofs.Tests.{test, Le?, le, gt, le?_complete}
use Rattle.walk.proofs.SoundnessLaws.{narrow_record}
use Rattle.walk.proofs.RecordLaws.{mark_of, mark_nil, mark_cons}
use Rattle.plan.specs.Places.{over_to, join_to}
use Rattle.plan.specs.Plan.{threshold_at, spending_of, Accepted}
use Rattle.bucket_test.specs.Words.{part_at, words_fit}
use Rattle.bucket_test.specs.Turn.{start_record, no_record, record_at, record_turn, part_turn, record_sound_at}
use Rattle.bucket_test.specs.Answers.{answer_of, is_ending}
use Rattle.bucket_test.specs.Draw.{start_state, start_words, state_sound, next_state, next_words}
use Rattle.plan.proofs.PlaceLaws.{all_reads}
use Rattle.plan.proofs.PlaceLists.{over-get, over-over, over_same, join_cong, join_length}
use Rattle.plan.proofs.AcceptedLaws.{threshold_ok, spends}
use Rattle.bucket_test.proofs.AnsweringLaws.{not_over, thin_at}
use Rattle.bucket_test.proofs.OneThreshold.{record_for, part_for, mark_for, start_for, turn_record_lem, turn_part_lem, part_size, record_sound_lem, narrow_on}
use Rattle.bucket_test.specs.declared.Threshold.{Threshold}
use Rattle.bucket_test.specs.declared.State.{State}
use Rattle.plan.specs.declared.Plan.{Plan}
use Rattle.bucket_test.proofs.PartLaws.{words_say, join_part}

ones_le : (s : Draws) → ones s ≤ length s
ones_le [] = omega arith
ones_le (true ∷ s) = omega (arith, ones_le s)
ones_le (false ∷ s) = omega (arith, ones_le s)

module _ (p : Plan) where
  -- the mark of the threshold at place i after the draws s
  abbrev pub mark_at : ℕ → Draws → Mark
  mark_at i s = mark_of (threshold_at p i) (spending_of p i) s

  unfoldable pub record_after : Draws → ℕ → Threshold
  record_after s i = record_for (threshold_at p i) (spending_of p i) (mark_at i s) (length s)

  unfoldable pub part_after : Draws → ℕ → List ℕ
  part_after s i = part_for (threshold_at p i) (spending_of p i) (mark_at i s) (length s)

  unfoldable pub state_for : Draws → State
  state_for s = record { n = length s; ones = ones s; records = over_to p.count (λ i t. record_after s i) (replicate 10 start_record) }

  unfoldable pub words_for : Draws → List ℕ
  words_for s = join_to p.count (part_after s)

  -- what the draws alone do not show: not past the horizon, and no threshold walked past its first wide step
  pub record History (s : Draws) : Type 0 where
    pub in-time : length s ≤ p.horizon
    pub narrow : (i : ℕ) → i < p.count → NoWideBefore (threshold_at p i) (spending_of p i) (last_step (mark_at i s) (length s))

  module _ (ok : Accepted p) where
    -- ---- the beginning

    pub start_state_lem : start_state ≡ state_for []
    unfolding start_state state_for record_after
    start_state_lem =
        ap (λ (rs : List Threshold). record { n = 0; ones = 0; records = rs })
        (sym (over_same p.count (λ i t. record_after [] i) 10 start_record (λ i t.
        rw (mark_nil (threshold_at p i) (spending_of p i)) (start_for (threshold_at p i) (spending_of p i)).0)))

    pub start_words_lem : start_words p ≡ words_for []
    unfolding start_words words_for part_after
    start_words_lem =
        join_cong p.count _ _
        (λ i l. rw (mark_nil (threshold_at p i) (spending_of p i)) (sym (start_for (threshold_at p i) (spending_of p i)).1))

    module _ (s : Draws) (h : History s) where
      pub size_at : (i : ℕ) → i < p.count → length (part_after s i) ≡ wide
      unfolding part_after
      size_at i l = part_size (threshold_at p i) (spending_of p i) (threshold_ok p ok i l) (spends p ok i l) s (h.narrow i l)

      pub record_at_lem : (i : ℕ) → i < p.count → record_at (state_for s) i ≡ record_after s i
      unfolding state_for
      record_at_lem i l =
          over-get p.count (λ i t. record_after s i) (replicate 10 start_record) i no_record l
          (omega (arith, ok.count_range, length-replicate 10 start_record))

      pub mark_at_lem : (i : ℕ) → i < p.count → (record_at (state_for s) i).mark ≡ mark_at i s
      unfolding record_after
      mark_at_lem i l = ap (λ (t : Threshold). t.mark) (record_at_lem i l) ∙ mark_for (threshold_at p i) (spending_of p i) (mark_at i s) (length s)

      pub part_at_lem : (i : ℕ) → i < p.count → part_at i (words_for s) ≡ part_after s i
      unfolding words_for
      part_at_lem i l = join_part (part_after s) p.count size_at i l

      -- ---- 8 and 11 do not refuse

      pub words_fit_lem : words_fit p (words_for s) ≡ true
      unfolding words_for
      words_fit_lem = (words_say p _).1 (join_length (part_after s) wide p.count size_at)

      sound_at : (i : ℕ) → i < p.count → record_sound_at p (words_for s) (length s) (ones s) i (record_at (state_for s) i) ≡ true
      unfolding record_after part_after
      sound_at i l =
          rw (mark_at_lem i l, record_at_lem i l, part_at_lem i l)
          (record_sound_lem (threshold_at p i) (spending_of p i) (threshold_ok p ok i l) (spends p ok i l) s (h.narrow i l))

      pub state_sound_lem : state_sound p (state_for s) (words_for s) ≡ true
      unfolding state_sound state_for
      state_sound_lem =
          cc (
            le?_complete (length s) p.horizon h.in-time,
            le?_complete (ones s) (length s) (ones_le s),
            (all_reads _ p.count).1 sound_at,
          )

      -- ---- one more draw, 0 or 1

      module _ (d : ℕ) (bit : d ≤ 1) where
        abbrev b : Bool
        b = le? 1 d

        ones_next : ones (b ∷ s) ≡ ones s + d
        ones_next = go (test 1 d)
          where
            go : {x : Bool} → Le? 1 d x → ones (x ∷ s) ≡ ones s + d
            go (le k) = omega arith
            go (gt k) = omega arith

        module _ (i : ℕ) (l : i < p.count) where
          record_next : record_turn p (words_for s) (suc (length s)) (ones s + d) i (record_after s i) ≡ record_after (b ∷ s) i
          unfolding record_after part_after record_for
          record_next =
              rw (part_at_lem i l, mark_cons (threshold_at p i) (spending_of p i) b s, ones_next)
              (turn_record_lem (threshold_at p i) (spending_of p i) (threshold_ok p ok i l) (spends p ok i l) (length s) (ones s + d) (mark_at i s))

          part_next : part_turn p (words_for s) (suc (length s)) (ones s + d) i (record_at (state_for s) i) ≡ part_after (b ∷ s) i
          unfolding record_after part_after
          part_next =
              rw (mark_at_lem i l, record_at_lem i l, part_at_lem i l, mark_cons (threshold_at p i) (spending_of p i) b s, ones_next)
              (turn_part_lem (threshold_at p i) (spending_of p i) (threshold_ok p ok i l) (spends p ok i l) (length s) (ones s + d) (mark_at i s))

        records_next : over_to p.count (record_turn p (words_for s) (suc (length s)) (ones s + d))
            (over_to p.count (λ i t. record_after s i) (replicate 10 start_record))
            ≡ over_to p.count (λ i t. record_after (b ∷ s) i) (replicate 10 start_record)
        records_next = over-over p.count _ (λ i t. record_after s i) _ (replicate 10 start_record) (λ i l x. record_next i l)

        pub next_state_lem : next_state p (state_for s) (words_for s) d ≡ state_for (b ∷ s)
        unfolding next_state state_for
        next_state_lem = λ j. record { n = suc (length s); ones = sym ones_next j; records = records_next j }

        pub next_words_lem : next_words p (state_for s) (words_for s) d ≡ words_for (b ∷ s)
        unfolding next_words words_for state_for
        next_words_lem = join_cong p.count _ (part_after (b ∷ s)) part_next

        -- ---- the history goes on, where the test has not ended

        module _ (open_yet : is_ending (answer_of p (state_for s)) ≡ false) where
          thin : (i : ℕ) → i < p.count → mark_at i s ≡ Open → ¬ (length (rows (threshold_at p i) (spending_of p i) (length s)).masses ≡ wide)
          unfolding record_after record_for
          thin i l e =
              (narrow_record (rows (threshold_at p i) (spending_of p i) (length s))).0
              (rw (mark_at_lem i l, record_at_lem i l, e) at (thin_at p (state_for s) (not_over p (state_for s) open_yet).0 i l))

          pub history_next : History (b ∷ s)
          unfolding state_for
          history_next = record {
            in-time = omega (arith, h.in-time, (not_over p (state_for s) open_yet).1);
            narrow = λ i l. narrow_on (threshold_at p i) (spending_of p i) (threshold_ok p ok i l) (spends p ok i l) s b (h.narrow i l) (thin i l);
          }

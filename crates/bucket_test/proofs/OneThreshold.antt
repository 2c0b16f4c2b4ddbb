-- One threshold of a carried test: its record and its part after the draws taken are what its walk and the string say, and one turn
-- takes them one draw on. Cites laws of `walk` about boundaries and masses only.
use mathlib.Core.Path.{◌≡◌, refl, ap, ◌∙◌}
use mathlib.Core.Bool.{Bool, true, false}
use mathlib.Core.List.{List, ◌∷◌}
use Prim.Native.Nat.{ℕ, suc, ◌*◌, ◌≤◌}
use native.Mathlib.Nat.{mul-le-mul_left}
use native.Mathlib.Omega.{arith}
use lib.ListN.{length}
use Rattle.walk.specs.Numbers.{le?, lt?}
use Rattle.walk.specs.Units.{million, wide}
use Rattle.walk.specs.Spending.{IsSpending}
use Rattle.walk.specs.Walk.{walk, first_at, upper_at, NoWideBefore}
use Rattle.walk.specs.Row.{Row, upper, rows}
use Rattle.walk.specs.Strings.{Draws, ones, Side, Upper, Lower, judged, or_else, settled, last_step}
use Rattle.walk.specs.Record.{record_of, padded, start_part}
use Rattle.walk.specs.Chance.{meeting, Bounds}
use Rattle.walk.specs.Soundness.{rounded_fits}
use Rattle.walk.specs.declared.Mark.{Mark}
use Rattle.walk.specs.declared.Mark.TheVariants.{Open, Above, AtMost}
use Rattle.walk.specs.declared.Walked.{Walked}
use Rattle.walk.proofs.Tests.{le?_complete}
use Rattle.walk.proofs.RowSteps.{rows_fit}
use Rattle.walk.proofs.Agreement.{same, in_order, not_wide}
use Rattle.walk.proofs.Chances.{chances_by_rounding}
use Rattle.walk.proofs.WalkFacts.{walk_facts}
use Rattle.walk.proofs.Meeting.{last_settled, mark_meets, mark_open_lem}
use Rattle.walk.proofs.SoundnessLaws.{padded-length, row_back, walk_passes, rounded_passes}
use Rattle.walk.proofs.RecordLaws.{start_walked_lem, start_words_lem, rows-zero, rows-suc, mark_of, verdict_of, mark_cons, verdict_row, verdict_record, open_inside, narrow_next}
use Rattle.bucket_test.specs.Words.{Stands}
use Rattle.bucket_test.specs.Turn.{start_record, marked, walked_on, turn_record, turn_part, record_sound}
use Rattle.bucket_test.specs.Demand3.{spent_in, Marks, Excess}
use Rattle.bucket_test.specs.declared.Threshold.{Threshold}
use Rattle.bucket_test.proofs.TurningLaws.{stands}

module _ (a : ℕ) (E : ℕ → ℕ) where
  -- the row of the last step walked, with the mark m after n draws; the record and the part that hold it
  abbrev pub row_at : Mark → ℕ → Row
  row_at m n = rows a E (last_step m n)

  unfoldable pub record_for : Mark → ℕ → Threshold
  record_for m n = record { mark = m; walked = record_of (row_at m n) }

  unfoldable pub part_for : Mark → ℕ → List ℕ
  part_for m n = padded (row_at m n).masses

  pub mark_for : (m : Mark) (n : ℕ) → (record_for m n).mark ≡ m
  unfolding record_for
  mark_for m n = refl

  pub start_for : (record_for Open 0 ≡ start_record) × (part_for Open 0 ≡ start_part)
  unfolding record_for part_for start_record
  start_for = (
    ap (λ (w : Walked). record { mark = Open; walked = w }) (ap record_of (rows-zero a E) ∙ start_walked_lem),
    ap (λ (r : Row). padded r.masses) (rows-zero a E) ∙ start_words_lem,
  )

  module _ (threshold : a ≤ million) (spends : IsSpending E) where
    -- ---- one turn

    last_verdict : (t : ℕ) (o u : Bool) → last_step (judged t o u) t ≡ t
    last_verdict t true u = refl
    last_verdict t false true = refl
    last_verdict t false false = refl

    verdict_last : (t S : ℕ) → last_step (verdict_of a E t S) t ≡ t
    verdict_last t S = rw (verdict_row a E threshold spends t S) (last_verdict t (le? (upper (rows a E t)) S) (lt? S (rows a E t).first))

    marked_is : (t S : ℕ) → marked t S (record_of (rows a E t)) ≡ verdict_of a E t S
    unfolding marked
    marked_is t S = verdict_record a E threshold spends t S

    pub turn_record_lem : (n S : ℕ) (m : Mark)
        → turn_record a (E (suc n)) (suc n) S m (record_for m n) (part_for m n) ≡ record_for (or_else m (verdict_of a E (suc n) S)) (suc n)
    unfolding record_for part_for walked_on
    turn_record_lem n S Open =
        rw (row_back (rows a E n), ← (rows-suc a E n), marked_is (suc n) S, verdict_last (suc n) S)
    turn_record_lem n S (Above t) = refl
    turn_record_lem n S (AtMost t) = refl

    pub turn_part_lem : (n S : ℕ) (m : Mark)
        → turn_part a (E (suc n)) (suc n) S m (record_for m n) (part_for m n) ≡ part_for (or_else m (verdict_of a E (suc n) S)) (suc n)
    unfolding record_for part_for
    turn_part_lem n S Open = rw (row_back (rows a E n), ← (rows-suc a E n), verdict_last (suc n) S)
    turn_part_lem n S (Above t) = refl
    turn_part_lem n S (AtMost t) = refl

    -- ---- what record and part say of the draws s

    orders : (t : ℕ) → first_at a E t ≤ upper_at a E t
    orders = in_order a threshold E spends

    module _ (s : Draws) (none : NoWideBefore a E (last_step (mark_of a E s) (length s))) where
      not_past : (side : Side) (t : ℕ) → mark_of a E s ≡ settled side t → NoWideBefore a E t
      not_past side t e = rw (e, last_settled side t (length s)) at none

      pub marks_say : Marks a E s (mark_of a E s)
      marks_say = record {
        settles = λ side t. (
          λ e. record { meets = (mark_meets (first_at a E) (upper_at a E) orders s side t).0 e; not_past = not_past side t e },
          λ h. (mark_meets (first_at a E) (upper_at a E) orders s side t).1 h.meets,
        );
        else_open = (
          λ e side t h. (mark_open_lem (first_at a E) (upper_at a E) orders s).0 e side t h.meets,
          λ never. (mark_open_lem (first_at a E) (upper_at a E) orders s).1 (λ side t h.
              never side t (record { meets = h; not_past = not_past side t ((mark_meets (first_at a E) (upper_at a E) orders s side t).1 h) })),
        );
      }

      pub part_size : length (part_for (mark_of a E s) (length s)) ≡ wide
      unfolding part_for
      part_size =
          let t = last_step (mark_of a E s) (length s) in
          padded-length (rows a E t).masses (rows_fit a threshold E spends t ((not_wide a threshold E spends t).0 none))

      -- refusal 11 lets it through
      counted : (t : ℕ) → NoWideBefore a E t → t ≤ length s → rounded_fits (length s) (record_of (rows a E t)) ≡ true
      counted t n to = rounded_passes a threshold E spends t (length s) to ((not_wide a threshold E spends t).0 n)

      sound_by : (m : Mark) → mark_of a E s ≡ m → NoWideBefore a E (last_step m (length s))
          → record_sound (E (length s)) (length s) (ones s) m (record_for m (length s)) (part_for m (length s)) ≡ true
      unfolding record_for part_for
      sound_by Open e n =
          let i = open_inside a E threshold spends s e in
          let none = (not_wide a threshold E spends (length s)).0 n in
          let w = walk_passes a threshold E spends (length s) (ones s) none i.0 i.1 in
          cc (counted (length s) n (omega arith), w.0, w.1)
      sound_by (Above t) e n =
          let h = (mark_meets (first_at a E) (upper_at a E) orders s Upper t).0 e in
          cc (counted t n h.to, le?_complete 1 t h.from, le?_complete t (length s) h.to)
      sound_by (AtMost t) e n =
          let h = (mark_meets (first_at a E) (upper_at a E) orders s Lower t).0 e in
          cc (counted t n h.to, le?_complete 1 t h.from, le?_complete t (length s) h.to)

      pub record_sound_lem : let m = mark_of a E s in record_sound (E (length s)) (length s) (ones s) m (record_for m (length s)) (part_for m (length s)) ≡ true
      record_sound_lem = sound_by (mark_of a E s) refl none

    -- ---- a record and its part are those of a step

    pub stands_at : (m : Mark) (n : ℕ) → length (part_for m n) ≡ wide → Stands (walk a E (last_step m n)) (record_for m n).walked (part_for m n)
    unfolding record_for part_for
    stands_at m n size = stands (same a threshold E spends (last_step m n)) size

    -- ---- the number of masses rounded in a record that stands at the last step walked

    last_le : (s : Draws) (m : Mark) → mark_of a E s ≡ m → last_step m (length s) ≤ length s
    last_le s Open e = omega arith
    last_le s (Above t) e = ((mark_meets (first_at a E) (upper_at a E) orders s Upper t).0 e).to
    last_le s (AtMost t) e = ((mark_meets (first_at a E) (upper_at a E) orders s Lower t).0 e).to

    module _ (s : Draws) (m : Mark) (is : mark_of a E s ≡ m) (none : NoWideBefore a E (last_step m (length s))) {r : Walked} {part : List ℕ}
        (h : Stands (walk a E (last_step m (length s))) r part) where
      few : r.rounded ≤ wide * last_step m (length s)
      few = omega (arith, h.rounded_is, (walk_facts a threshold E spends (last_step m (length s))).few none)

      bounded : (side : Side) → Bounds (last_step m (length s)) (meeting a E side (last_step m (length s))) (spent_in side r) r.rounded
      bounded Upper = rw (h.over_is, h.rounded_is) (chances_by_rounding a threshold E spends Upper (last_step m (length s)) none)
      bounded Lower = rw (h.under_is, h.rounded_is) (chances_by_rounding a threshold E spends Lower (last_step m (length s)) none)

      pub excess_says : Excess a E (last_step m (length s)) (length s) r
      excess_says = record { by_steps = few; by_draws = omega (arith, few, mul-le-mul_left wide (last_le s m is)); bounds = bounded }

    -- ---- one more draw, where the row was not wide

    pub narrow_on : (s : Draws) (b : Bool) → NoWideBefore a E (last_step (mark_of a E s) (length s))
        → (mark_of a E s ≡ Open → ¬ (length (rows a E (length s)).masses ≡ wide))
        → NoWideBefore a E (last_step (mark_of a E (b ∷ s)) (suc (length s)))
    narrow_on s b none thin = rw (mark_cons a E b s) (go (mark_of a E s) none thin)
      where
        go : (m : Mark) → NoWideBefore a E (last_step m (length s)) → (m ≡ Open → ¬ (length (rows a E (length s)).masses ≡ wide))
            → NoWideBefore a E (last_step (or_else m (verdict_of a E (suc (length s)) (ones (b ∷ s)))) (suc (length s)))
        go Open n t = rw (verdict_last (suc (length s)) (ones (b ∷ s))) (narrow_next a E threshold spends (length s) n (t refl))
        go (Above t) n k = n
        go (AtMost t) n k = n

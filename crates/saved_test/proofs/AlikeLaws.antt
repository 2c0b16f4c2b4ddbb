-- Tests that are alike are judged alike by the answer rule, 8 and 11 (specs/Alike).
use mathlib.Core.Path.{◌≡◌, refl, sym, ap, ◌∙◌}
use mathlib.Core.List.{List}
use Prim.Native.Nat.{ℕ, ◌-◌, ◌≤◌, ◌<◌}
use native.Mathlib.Omega.{arith}
use lib.IntN.{ℤ, pos, negsuc}
use lib.ListN.{take}
use lib.Seq.{take-take}
use Rattle.walk.specs.Record.{first_above, row_of}
use Rattle.walk.specs.Soundness.{words_sound}
use Rattle.walk.specs.declared.Mark.{Mark}
use Rattle.walk.specs.declared.Mark.TheVariants.{Open, Above, AtMost}
use Rattle.walk.specs.declared.Walked.{Walked}
use Rattle.plan.specs.Plan.{spending_of}
use Rattle.bucket_test.specs.Words.{part_at, words_fit}
use Rattle.bucket_test.specs.Turn.{record_at, record_sound, record_sound_at}
use Rattle.bucket_test.specs.Answers.{low_of, high_of, any_wide, answer_by, answer_over, answer_of}
use Rattle.bucket_test.specs.Draw.{state_sound}
use Rattle.plan.specs.declared.Plan.{Plan}
use Rattle.bucket_test.specs.declared.Threshold.{Threshold}
use Rattle.bucket_test.specs.declared.State.{State}
use Rattle.plan.proofs.PlaceLaws.{all_cong, any_cong, largest_cong, smallest_cong}
use Rattle.bucket_test.proofs.PartLaws.{words_say}
use Rattle.saved_test.specs.Form.{counts_between, live_by}
use Rattle.saved_test.specs.Alike.{Alike}

-- ---- one threshold

-- the row of a record asks for no word behind its live masses
pub gap_covers : (z : ℤ) (u : ℕ) → u - first_above z ≤ counts_between z u
unfolding counts_between first_above
gap_covers (pos b) u = omega arith
gap_covers (negsuc b) u = omega arith

pub row_same : (w : Walked) (part part' : List ℕ) → take (counts_between w.lower w.upper) part' ≡ take (counts_between w.lower w.upper) part
    → row_of w part' ≡ row_of w part
unfolding row_of
row_same w part part' e = ap (λ (l : List ℕ). record { first = first_above w.lower; masses = l; over = w.over; under = w.under; rounded = w.rounded }) masses
  where
    count : ℕ
    count = w.upper - first_above w.lower

    masses : take (w.upper - first_above w.lower) part' ≡ take (w.upper - first_above w.lower) part
    masses =
        let h = gap_covers w.lower w.upper in
        sym (take-take (w.upper - first_above w.lower) (counts_between w.lower w.upper) part' h)
        ∙ ap (take (w.upper - first_above w.lower)) e
        ∙ take-take (w.upper - first_above w.lower) (counts_between w.lower w.upper) part h

-- by its mark: the same judgement
pub sound_by : (t : Threshold) (part part' : List ℕ) (e n S : ℕ) (m : Mark) → take (live_by m t.walked) part' ≡ take (live_by m t.walked) part
    → record_sound e n S m t part' ≡ record_sound e n S m t part
unfolding words_sound
sound_by t part part' e n S Open h = rw (row_same t.walked part part' h)
sound_by t part part' e n S (Above u) h = refl
sound_by t part part' e n S (AtMost u) h = refl

-- ---- a test

module _ (p : Plan) (s : State) (words : List ℕ) (s' : State) (words' : List ℕ) (h : Alike p s words s' words') where
  -- the answer rule
  low_same : low_of p s' ≡ low_of p s
  unfolding low_of
  low_same = largest_cong p.count _ _ 0 (λ i l. rw (h.record_same i l))

  high_same : high_of p s' ≡ high_of p s
  unfolding high_of
  high_same = smallest_cong p.count _ _ _ (λ i l. rw (h.record_same i l))

  wide_same : any_wide p s' ≡ any_wide p s
  unfolding any_wide
  wide_same = any_cong p.count _ _ (λ i l. rw (h.record_same i l))

  pub answer_same : answer_of p s' ≡ answer_of p s
  unfolding answer_over answer_by
  answer_same = rw (low_same, high_same, wide_same, h.n_same)

  -- refusals 8 and 11
  pub words_same : words_fit p words' ≡ words_fit p words
  words_same = (words_say p words').1 h.sizes.1 ∙ sym ((words_say p words).1 h.sizes.0)

  sound_at_same : (i : ℕ) → i < p.count
      → record_sound_at p words' s'.n s'.ones i (record_at s' i) ≡ record_sound_at p words s.n s.ones i (record_at s i)
  sound_at_same i l =
      rw (h.record_same i l, h.n_same, h.ones_same)
      (sound_by (record_at s i) (part_at i words) (part_at i words') (spending_of p i s.n) s.n s.ones (record_at s i).mark (h.masses_same i l))

  pub sound_same : state_sound p s' words' ≡ state_sound p s words
  unfolding state_sound
  sound_same = rw (all_cong p.count _ _ sound_at_same, h.n_same, h.ones_same)

-- alike from a test to a second, and from it to a third
pub alike_trans : (p : Plan) (s : State) (ws : List ℕ) (s' : State) (ws' : List ℕ) (s'' : State) (ws'' : List ℕ)
    → Alike p s ws s' ws' → Alike p s' ws' s'' ws'' → Alike p s ws s'' ws''
alike_trans p s ws s' ws' s'' ws'' h k = record {
  n_same = k.n_same ∙ h.n_same;
  ones_same = k.ones_same ∙ h.ones_same;
  record_same = λ i l. k.record_same i l ∙ h.record_same i l;
  masses_same = λ i l. (rw (h.record_same i l) at (k.masses_same i l)) ∙ h.masses_same i l;
  sizes = (h.sizes.0, k.sizes.1);
}

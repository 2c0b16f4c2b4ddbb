-- What is known of a test that a writing accepts (specs/Writing).
use mathlib.Core.Path.{◌≡◌, refl, ap, ◌∙◌}
use mathlib.Core.Bool.{true, ◌&&◌}
use mathlib.Core.Logic.{◌↔◌}
use mathlib.Core.List.{List, [], ◌∷◌}
use Prim.Native.Nat.{ℕ, zero, suc, ◌*◌, ◌-◌, ◌^◌, ◌≤◌, ◌<◌}
use native.Mathlib.Nat.{mul-suc}
use native.Mathlib.Omega.{arith}
use lib.IntN.{ℤ}
use lib.ListN.{length, take, get_or}
use lib.Seq.{get_or-take}
use Rattle.walk.specs.Numbers.{le?, all_up_to}
use Rattle.walk.specs.Units.{wide, mass_limit, horizon_limit}
use Rattle.walk.specs.Walk.{below}
use Rattle.walk.specs.Record.{first_above, row_of}
use Rattle.walk.specs.Soundness.{rounded_fits, words_sound}
use Rattle.walk.specs.declared.Mark.{Mark}
use Rattle.walk.specs.declared.Mark.TheVariants.{Open, Above, AtMost}
use Rattle.walk.specs.declared.Walked.{Walked}
use Rattle.walk.proofs.Tests.{and_true, le?_sound}
use Rattle.walk.proofs.Lists.{all_get_d}
use Rattle.walk.proofs.SoundnessLaws.{boundaries_say}
use Rattle.plan.specs.Places.{within}
use Rattle.refusals.specs.Refusals.{unless}
use Rattle.plan.specs.Plan.{spending_of, plan_refusal, Accepted}
use Rattle.bucket_test.specs.Words.{part_at, words_fit}
use Rattle.bucket_test.specs.Turn.{record_at, record_sound}
use Rattle.bucket_test.specs.Draw.{state_sound}
use Rattle.plan.specs.declared.Plan.{Plan}
use Rattle.bucket_test.specs.declared.Threshold.{Threshold}
use Rattle.bucket_test.specs.declared.State.{State}
use Rattle.plan.proofs.PlaceLaws.{all_reads, within_reads, none_both, none_says, last_says}
use Rattle.bucket_test.proofs.PartLaws.{words_say}
use Rattle.bucket_test.proofs.DrawingLaws.{open_sound}
use Rattle.plan.proofs.AcceptedLaws.{accepted}
use Rattle.saved_test.specs.Form.{form_limit, record_offset, form_size, counts_between, live_by, live_count, masses_to, mark_step, saved_masses, saved_size}
use Rattle.saved_test.specs.Writing.{save_refusal}
use Rattle.saved_test.specs.Reading.{count_fits}

pub save_says : (p : Plan) (s : State) (words : List ℕ)
    → (save_refusal p s words ≡ 0) ↔ ((plan_refusal p ≡ 0) × ((length words ≡ wide * p.count) × (state_sound p s words ≡ true)))
unfolding save_refusal
save_says p s words =
    none_both (plan_refusal p) (unless (words_fit p words) 8 ∷ unless (state_sound p s words) 11 ∷ []) (λ e. e, λ e. e)
    (none_says (words_fit p words) 7 (unless (state_sound p s words) 11 ∷ []) (words_say p words)
    (last_says (state_sound p s words) 10 (λ e. e, λ e. e)))

-- ---- one record

-- masses between boundaries, the lower just below f
pub gap_below : (f u : ℕ) → counts_between (below f) u ≡ u - f
unfolding counts_between below
gap_below zero u = omega arith
gap_below (suc f) u = refl

-- .. of a record whose lower boundary is no less than -1
pub gap_live : (w : Walked) → w.lower ≡ below (first_above w.lower) → counts_between w.lower w.upper ≡ w.upper - first_above w.lower
gap_live w signed = ap (λ (z : ℤ). counts_between z w.upper) signed ∙ gap_below (first_above w.lower) w.upper

-- after n draws: as many masses as a reading allows, each of them small, a step that was taken, and a number of masses rounded that fits
pub record Known (n : ℕ) (m : Mark) (t : Threshold) (part : List ℕ) : Type 0 where
  pub few : live_by m t.walked ≤ wide
  pub count_holds : count_fits m t.walked ≡ true
  pub step_small : mark_step m ≤ n
  pub few_rounded : t.walked.rounded ≤ wide * n
  pub small : (j : ℕ) → j < live_by m t.walked → get_or part j 0 ≤ mass_limit

-- of a settled one
module _ (n u : ℕ) (t : Threshold) (part : List ℕ) where
  settled_known : {m : Mark} → (live_by m t.walked ≡ 0) × (count_fits m t.walked ≡ true) × (mark_step m ≡ u)
      → (rounded_fits n t.walked && within 1 n u) ≡ true → Known n m t part
  unfolding rounded_fits
  settled_known is h =
      let both = and_true (rounded_fits n t.walked) _ h in
      record {
        few = omega (arith, is.0);
        count_holds = is.1;
        step_small = omega (arith, is.2, ((within_reads 1 n u).0 both.1).1);
        few_rounded = le?_sound t.walked.rounded (wide * n) both.0;
        small = λ j l. absurd (omega (arith, is.0));
      }

pub known : (e n S : ℕ) (m : Mark) (t : Threshold) (part : List ℕ) → record_sound e n S m t part ≡ true → Known n m t part
unfolding rounded_fits words_sound row_of
known e n S Open t part h =
    let s = open_sound e n S t part h in
    let b = boundaries_say e n S t.walked s.1.0 in
    let f : ℕ = first_above t.walked.lower in
    let g = gap_live t.walked b.signed in
    record {
      few = omega (arith, g, b.fits);
      count_holds = (within_reads 1 wide (counts_between t.walked.lower t.walked.upper)).1 (omega (arith, g, b.order), omega (arith, g, b.fits));
      step_small = omega arith;
      few_rounded = le?_sound t.walked.rounded (wide * n) s.0;
      small = λ j l.
          let small = all_get_d mass_limit (take (t.walked.upper - f) part) (and_true (all_up_to mass_limit (take (t.walked.upper - f) part)) _ s.1.1).0 j in
          rw (get_or-take (t.walked.upper - f) part j 0 (omega (arith, g))) at small;
    }
known e n S (Above u) t part h = settled_known n u t part (refl, refl, refl) h
known e n S (AtMost u) t part h = settled_known n u t part (refl, refl, refl) h

-- ---- a test

module _ (p : Plan) (s : State) (words : List ℕ) (sound : state_sound p s words ≡ true) where
  pub in-time : s.n ≤ p.horizon
  unfolding state_sound
  in-time = le?_sound s.n p.horizon (and_true (le? s.n p.horizon) _ sound).0

  pub ones_fit : s.ones ≤ s.n
  unfolding state_sound
  ones_fit = le?_sound s.ones s.n (and_true (le? s.ones s.n) _ (and_true (le? s.n p.horizon) _ sound).1).0

  pub known_at : (i : ℕ) → i < p.count → Known s.n (record_at s i).mark (record_at s i) (part_at i words)
  unfolding state_sound
  known_at i l =
      known (spending_of p i s.n) s.n s.ones (record_at s i).mark (record_at s i) (part_at i words)
      ((all_reads _ p.count).0 (and_true (le? s.ones s.n) _ (and_true (le? s.n p.horizon) _ sound).1).1 i l)

-- masses of thresholds with at most 769 each
pub masses_few : (records : ℕ → Threshold) (n : ℕ) → ((i : ℕ) → i < n → live_count (records i) ≤ wide) → masses_to records n ≤ wide * n
unfolding masses_to
masses_few records zero h = omega arith
masses_few records (suc n) h = omega (arith, masses_few records n (λ i l. h i (omega arith)), h n (omega arith), mul-suc wide n)

-- the same records below n, the same masses
pub masses_cong : (f g : ℕ → Threshold) (n : ℕ) → ((i : ℕ) → i < n → f i ≡ g i) → masses_to f n ≡ masses_to g n
unfolding masses_to
masses_cong f g zero h = refl
masses_cong f g (suc n) h = rw (masses_cong f g n (λ i l. h i (omega arith)), h n (omega arith))

-- the numbers of the header have their widths
pub record Small (p : Plan) (s : State) : Type 0 where
  pub count : p.count < 256 ^ 2
  pub masses : saved_masses p s < 256 ^ 2
  pub n : s.n < 256 ^ 4
  pub ones : s.ones < 256 ^ 4
  pub offset : record_offset p.count < 256 ^ 2
  pub size : saved_size p s < 256 ^ 4

pub small : (p : Plan) (s : State) (words : List ℕ) → Accepted p → state_sound p s words ≡ true → Small p s
unfolding wide horizon_limit record_offset form_size
small p s words ok sound =
    let m = masses_few (record_at s) p.count (λ i l. (known_at p s words sound i l).few) in
    let k = ok.count_range.1 in
    let t = in-time p s words sound in
    let o = ones_fit p s words sound in
    let z = ok.horizon_range.1 in
    record {
      count = omega arith;
      masses = omega arith;
      n = omega arith;
      ones = omega arith;
      offset = omega arith;
      size = omega arith;
    }

-- the longest form is that of the most thresholds, each with the most masses
pub size_limit_lem : (p : Plan) (s : State) (words : List ℕ) → save_refusal p s words ≡ 0 → saved_size p s ≤ form_limit
unfolding wide record_offset form_size
size_limit_lem p s words may =
    let j = (save_says p s words).0 may in
    let k = ((accepted p).0 j.0).count_range.1 in
    omega (arith, masses_few (record_at s) p.count (λ i l. (known_at p s words j.1.1 i l).few))

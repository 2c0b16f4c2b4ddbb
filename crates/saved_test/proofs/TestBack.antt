-- A test that a writing accepts, read back from its form (specs/RoundTrip: TestBack).
use mathlib.Core.Path.{◌≡◌, refl, sym, ◌∙◌}
use mathlib.Core.Bool.{true}
use mathlib.Core.List.{List}
use Prim.Native.Nat.{ℕ, ◌*◌, ◌^◌, ◌≤◌, ◌<◌}
use native.Mathlib.Omega.{arith}
use lib.ListN.{length, take, get_or, replicate, length-replicate}
use lib.Seq.{length-take-le, get_or-take, ext_get_or}
use Rattle.walk.specs.Units.{wide, mass_limit, horizon_limit}
use Rattle.walk.specs.declared.Mark.{Mark}
use Rattle.walk.specs.declared.Mark.TheVariants.{Open, Above, AtMost}
use Rattle.plan.specs.Places.{eq?}
use Rattle.plan.specs.Plan.{count_limit, plan_refusal, Accepted}
use Rattle.bucket_test.specs.Words.{part_at}
use Rattle.bucket_test.specs.Turn.{start_record, record_at}
use Rattle.bucket_test.specs.Draw.{state_sound}
use Rattle.plan.specs.declared.Plan.{Plan}
use Rattle.bucket_test.specs.declared.State.{State}
use Rattle.plan.proofs.PlaceLaws.{eq?_complete, all_reads}
use Rattle.plan.proofs.PlaceLists.{over-length, over-drop}
use Rattle.bucket_test.proofs.PartLaws.{words_say}
use Rattle.plan.proofs.AcceptedLaws.{accepted}
use Rattle.bucket_test.proofs.TurningLaws.{part_length}
use Rattle.little.specs.Little.{column}
use Rattle.little.specs.Little.{filled}
use Rattle.little.proofs.FilledLaws.{filled-length, filled-get, filled_past, filled_cong}
use Rattle.saved_test.specs.Form.{mass_size, record_offset, live_count, masses_to, mark_code, mark_step, saved_masses, saved_form}
use Rattle.saved_test.specs.Alike.{live_masses, Alike}
use Rattle.saved_test.specs.Reading.{mark_known, record_in, record_fits, mass_offset, part_in, state_in, words_in, masses_in, header_fits, form_fits, read_refusal}
use Rattle.saved_test.specs.RoundTrip.{Savable, ReadBack, TestBack}
use Rattle.saved_test.proofs.Sizes.{form-length}
use Rattle.saved_test.proofs.Fields.{record_from_lem, code_is, step_is, in-record, in-mass, in_count, in-masses-count, in-first, in-second, in_size, in-n, in_ones, in-record-size, in-mass-size}
use Rattle.saved_test.proofs.Judged.{Known, in-time, known_at, Small, small, save_says, masses_cong}
use Rattle.saved_test.proofs.HeldLaws.{record_held, part_held, words_held}
use Rattle.saved_test.proofs.AlikeLaws.{sound_same}

known_mark : (m : Mark) → mark_known (mark_code m) (mark_step m) ≡ true
unfolding eq?
known_mark Open = refl
known_mark (Above u) = refl
known_mark (AtMost u) = refl

-- ---- a part that was read: the live masses, and zeros

pub fill_live : (count size : ℕ) (f : ℕ → ℕ) (part : List ℕ) → length part ≡ size → count ≤ size → ((j : ℕ) → j < count → f j ≡ get_or part j 0)
    → take count (filled count f (replicate size 0)) ≡ take count part
fill_live count size f part len fits e =
    let l = length-take-le count (filled count f (replicate size 0)) (rw (filled-length size count f) fits) in
    ext_get_or 0 (take count (filled count f (replicate size 0))) (take count part) (l ∙ sym (length-take-le count part (omega arith)))
    (λ i h. let k : i < count = omega arith in
    get_or-take count (filled count f (replicate size 0)) i 0 k ∙ filled-get size count f fits i k ∙ e i k ∙ sym (get_or-take count part i 0 k))

module _ (p : Plan) (s : State) (words : List ℕ) (savable : Savable p s words) where
  abbrev bytes : List ℕ
  bytes = saved_form p s words

  judged : (plan_refusal p ≡ 0) × ((length words ≡ wide * p.count) × (state_sound p s words ≡ true))
  judged = (save_says p s words).0 savable.accepted

  ok : Accepted p
  ok = (accepted p).0 judged.0

  fits : Small p s
  fits = small p s words ok judged.1.1

  module _ (i : ℕ) (l : i < p.count) where
    knows : Known s.n (record_at s i).mark (record_at s i) (part_at i words)
    knows = known_at p s words judged.1.1 i l

    early : mark_step (record_at s i).mark < 256 ^ 4
    early = omega (arith, fits.n, knows.step_small)

    few_rounded : (record_at s i).walked.rounded < 256 ^ 4
    unfolding wide horizon_limit
    few_rounded = omega (arith, knows.few_rounded, in-time p s words judged.1.1, ok.horizon_range.1)

    pub record_back : record_in bytes i ≡ record_at s i
    record_back = record_from_lem (record_at s i) (savable.typed i l) early few_rounded bytes (record_offset i) (in-record p s words i l)

    record_fits_lem : record_fits bytes i ≡ true
    unfolding record_fits
    record_fits_lem =
        rw (
          code_is (record_at s i) (savable.typed i l) early few_rounded bytes (record_offset i) (in-record p s words i l),
          step_is (record_at s i) (savable.typed i l) early few_rounded bytes (record_offset i) (in-record p s words i l),
          known_mark (record_at s i).mark,
          record_back,
        ) knows.count_holds

  masses_before : (i : ℕ) → i ≤ p.count → masses_to (record_in bytes) i ≡ masses_to (record_at s) i
  masses_before i h = masses_cong (record_in bytes) (record_at s) i (λ j l. record_back j (omega arith))

  module _ (i : ℕ) (l : i < p.count) where
    before : masses_to (record_in bytes) i ≡ masses_to (record_at s) i
    before = masses_before i (omega arith)

    mass_back : (j : ℕ) → j < live_count (record_at s i) → column mass_size (mass_offset bytes p.count i) mass_size bytes j ≡ get_or (part_at i words) j 0
    unfolding mass_offset mass_limit
    mass_back j k = rw before (in-mass p s words i l j k (omega (arith, (knows i l).small j k)))

    part_back : part_in bytes p.count i ≡ filled (live_count (record_at s i)) (λ j. get_or (part_at i words) j 0) (replicate wide 0)
    unfolding part_in
    part_back = rw (record_back i l) (filled_cong (live_count (record_at s i)) _ _ (replicate wide 0) mass_back)

  masses_back : masses_in p bytes ≡ saved_masses p s
  masses_back = masses_cong (record_in bytes) (record_at s) p.count record_back

  -- the test that the form holds
  record_at_lem : (i : ℕ) → i < p.count → record_at (state_in p bytes) i ≡ record_at s i
  record_at_lem i l = record_held p bytes ok.count_range.1 i l ∙ record_back i l

  pub part_at_lem : (i : ℕ) → i < p.count
      → part_at i (words_in p bytes) ≡ filled (live_count (record_at s i)) (λ j. get_or (part_at i words) j 0) (replicate wide 0)
  part_at_lem i l = part_held p bytes i l ∙ part_back i l

  live_back : (i : ℕ) → i < p.count → live_masses (record_at s i) (part_at i (words_in p bytes)) ≡ live_masses (record_at s i) (part_at i words)
  live_back i l =
      rw (part_at_lem i l)
      (fill_live (live_count (record_at s i)) wide (λ j. get_or (part_at i words) j 0) (part_at i words) (part_length words p.count i judged.1.0 l)
      (knows i l).few (λ j k. refl))

  n_back : ((state_in p bytes).n ≡ s.n) × ((state_in p bytes).ones ≡ s.ones)
  unfolding state_in
  n_back =
      let f = fits in (
        in-n p s words f.count f.masses f.n f.ones f.offset f.size,
        in_ones p s words f.count f.masses f.n f.ones f.offset f.size,
      )

  pub alike_back : Alike p s words (state_in p bytes) (words_in p bytes)
  alike_back = record {
    n_same = n_back.0;
    ones_same = n_back.1;
    record_same = record_at_lem;
    masses_same = live_back;
    sizes = (judged.1.0, words_held p bytes);
  }

  header_back : header_fits p bytes ≡ true
  unfolding header_fits
  header_back =
      let f = fits in
      rw (
        masses_back,
        eq?_complete _ _ (in_count p s words f.count f.masses f.n f.ones f.offset f.size),
        eq?_complete _ _ (in-masses-count p s words f.count f.masses f.n f.ones f.offset f.size),
        eq?_complete _ _ (in-first p s words f.count f.masses f.n f.ones f.offset f.size),
        eq?_complete _ _ (in-second p s words f.count f.masses f.n f.ones f.offset f.size),
        eq?_complete _ _ (in_size p s words f.count f.masses f.n f.ones f.offset f.size),
        eq?_complete _ _ (in-record-size p s words f.count f.masses f.n f.ones f.offset f.size),
        eq?_complete _ _ (in-mass-size p s words f.count f.masses f.n f.ones f.offset f.size),
      )

  pub form_fits_lem : form_fits p bytes ≡ true
  unfolding form_fits
  form_fits_lem =
      rw (masses_back, eq?_complete _ _ (form-length p s words), header_back) ((all_reads (record_fits bytes) p.count).1 record_fits_lem)

  pub not_refused : (lent : List ℕ) → length lent ≡ wide * p.count → read_refusal p bytes lent ≡ 0
  unfolding read_refusal
  not_refused lent size =
      rw (judged.0, (words_say p lent).1 size, form_fits_lem, sound_same p s words (state_in p bytes) (words_in p bytes) alike_back, judged.1.1)

  pub read_back : ReadBack p s words (state_in p bytes) (words_in p bytes)
  unfolding state_in
  read_back = record {
    alike = alike_back;
    zeros = λ i l j h. rw (part_at_lem i l) (filled_past wide (live_count (record_at s i)) (λ j. get_or (part_at i words) j 0) j h);
    past = over-drop p.count _ (replicate count_limit start_record);
    places = over-length p.count _ (replicate count_limit start_record) ∙ length-replicate count_limit start_record;
  }

pub test_back : TestBack
test_back p s words lent savable size = (not_refused p s words savable lent size, read_back p s words savable)

-- What the code of src/reading.rt leaves to do, in plain variables.
use mathlib.Core.Path.{◌≡◌, refl, sym, ap, ◌∙◌}
use mathlib.Core.List.{List, ◌++◌}
use Prim.Native.Nat.{ℕ, zero, suc, ◌-◌, ◌+◌, ◌*◌, ◌^◌, ◌≤◌, ◌<◌}
use native.Mathlib.Numerals.{add-one}
use native.Mathlib.Omega.{arith}
use mathlib.Core.Bool.{Bool, true, false, ◌&&◌}
use lib.ListN.{length, take, replicate, length-replicate, replicate-append-replicate}
use lib.Seq.{length-take-le}
use Rattle.walk.specs.Numbers.{le?, sum, all_up_to}
use Rattle.walk.specs.Units.{M, wide, mass_limit, horizon_limit}
use Rattle.plan.proofs.AcceptedLaws.{accepted}
use Rattle.plan.proofs.SpendingLaws.{portion_fits}
use Rattle.walk.specs.Record.{first_above, row_of}
use Rattle.walk.specs.Soundness.{rounded_fits, words_sound}
use Rattle.walk.specs.declared.Portion.{Portion}
use Rattle.walk.specs.declared.Walked.{Walked}
use Rattle.walk.proofs.SoundnessLaws.{boundaries_say}
use Rattle.walk.proofs.Tests.{and_true, le?_complete, le?_fails}
use lib.Dec.{eqb}
use lib.IntN.{ℤ}
use Rattle.plan.specs.Places.{eq?, all_to}
use Rattle.std.specs.Prelude.{Result, Ok}
use Rattle.std.specs.Result.{IsErrAnd}
use Rattle.std.proofs.lemmas.Result.{err_from_is_err_and}
use Rattle.refusals.specs.Refusals.{number_of}
use Rattle.refusals.specs.declared.Refusal.{Refusal}
use Rattle.refusals.proofs.RefusalLaws.{number_is}
use Rattle.plan.proofs.PlaceLaws.{eq?_complete, eq?_fails, all_reads, all_cong, first_some}
use mir.Syntax.{w32}
use mir.Val.{to_z, of_z}
use mir.ValLaws.{to_z-of_z, to_z-Fits}
use Rattle.walk.specs.declared.Mark.{Mark}
use Rattle.walk.specs.declared.Mark.TheVariants.{Open}
use Rattle.bucket_test.specs.declared.Threshold.{Threshold}
use Rattle.little.specs.Little.{field, column}
use Rattle.little.specs.Little.{filled}
use Rattle.little.proofs.FilledLaws.{filled-over, filled-take}
use Rattle.plan.specs.declared.Plan.{Plan}
use Rattle.bucket_test.specs.declared.State.{State}
use Rattle.plan.specs.Plan.{count_limit, spending_of, plan_refusal}
use Rattle.plan.specs.Tables.{portion_of}
use Rattle.bucket_test.specs.Turn.{record_at, numbers_sound, record_sound, record_sound_at}
use Rattle.bucket_test.specs.Draw.{state_sound, no_state}
use Rattle.saved_test.specs.Form.{header_size, record_size, draws_field, ones_field, mass_size, record_offset, form_size, counts_between, live_count, masses_to}
use Rattle.saved_test.specs.Inner.{Judgeable, RecordsAndMasses, part_passes}
use Rattle.saved_test.specs.Reading.{mark_of, record_from, record_in, record_fits, mass_offset, part_in, masses_in, header_fits, form_fits, state_in, words_in, read_refusal, Loaded, loaded_as, loaded, words_after}
use Rattle.saved_test.proofs.Judged.{gap_live}
use Rattle.saved_test.proofs.HeldLaws.{record_held, part_held}
use Rattle.saved_test.proofs.Refusals.{record_says, form_says}
use Rattle.saved_test.proofs.BytesBack.{few_fit, masses_within}

-- a record from its fields
pub record_made : (bytes : List ℕ) (at code step bits upper over under rounded : ℕ) (m : Mark) (z : ℤ)
    → code ≡ field 4 at bytes → step ≡ field 4 (at + 4) bytes → bits ≡ field 4 (at + 8) bytes → bits < 256 ^ 4 → upper ≡ field 4 (at + 12) bytes
    → over ≡ field 8 (at + 16) bytes → under ≡ field 8 (at + 24) bytes → rounded ≡ field 4 (at + 32) bytes → m ≡ mark_of code step → z ≡ to_z w32 bits
    → ◌≡◌ {A = Threshold} (record { mark = m; walked = record { lower = to_z w32 (of_z w32 z); upper = upper; over = over; under = under; rounded = rounded } })
    (record_from bytes at)
unfolding record_from
record_made bytes at code step bits upper over under rounded m z c s b small u o n r mark low =
    let fits = to_z-Fits w32 bits (record { fits = omega arith }) in
    rw (mark, low, to_z-of_z w32 (to_z w32 bits) fits, c, s, b, u, o, n, r)

-- a field that was read is compared with a number
pub as_read : {r v : ℕ} → r ≡ v → (x : ℕ) → eqb r x ≡ eq? v x
unfolding eq?
as_read e x = ap (λ (y : ℕ). eqb y x) e

-- a chain of tests in code: after tests with the value u, the next decides only where u is true
pub goes_on : {u v w b : Bool} → u ≡ v → u ≡ true → w ≡ b → w ≡ (v && b)
goes_on is e h = rw (sym is ∙ e) h

pub stops_here : {u v w : Bool} (b : Bool) → u ≡ v → u ≡ false → w ≡ u → w ≡ (v && b)
stops_here b is e h = rw (sym is ∙ e) (h ∙ e)

pub regrouped : (a b c d e f g : Bool) → ((((((a && b) && c) && d) && e) && f) && g) ≡ (a && (b && (c && (d && (e && (f && g))))))
regrouped false b c d e f g = refl
regrouped true false c d e f g = refl
regrouped true true false d e f g = refl
regrouped true true true false e f g = refl
regrouped true true true true false f g = refl
regrouped true true true true true f g = refl

-- ---- refusal 15, test by test

module _ (p : Plan) (bytes : List ℕ) (count : ℕ) (counts : p.count ≡ count) where
  pub fits_short : length bytes < header_size + record_size * count → false ≡ form_fits p bytes
  unfolding form_fits form_size record_offset
  fits_short h = rw (eq?_fails (length bytes) (form_size p.count (masses_in p bytes)) (λ e. omega arith))

  module _ (masses : ℕ) (is : masses ≡ masses_to (record_in bytes) count) where
    masses_are : masses ≡ masses_in p bytes
    masses_are = rw counts is

    pub fits_size : ¬ (length bytes ≡ header_size + record_size * count + mass_size * masses) → false ≡ form_fits p bytes
    unfolding form_fits form_size record_offset
    fits_size n = rw (eq?_fails (length bytes) (form_size p.count (masses_in p bytes)) (λ e. n (omega (arith, masses_are))))

    abbrev header : Bool
    header =
        eq? (field 2 0 bytes) count
        && (eq? (field 2 2 bytes) masses
        && (eq? (field 2 4 bytes) header_size
        && (eq? (field 2 6 bytes) (header_size + record_size * count)
        && (eq? (field 4 8 bytes) (header_size + record_size * count + mass_size * masses)
        && (eq? (field 2 20 bytes) record_size
        && eq? (field 2 22 bytes) mass_size)))))

    header_is : header ≡ header_fits p bytes
    unfolding header_fits form_size record_offset
    header_is = rw (← masses_are, counts)

    module _ (size : length bytes ≡ header_size + record_size * count + mass_size * masses) where
      sized : eq? (length bytes) (form_size p.count (masses_in p bytes)) ≡ true
      unfolding form_size record_offset
      sized = eq?_complete _ _ (omega (arith, masses_are))

      pub fits_header : header ≡ false → false ≡ form_fits p bytes
      unfolding form_fits
      fits_header h = rw (sized, sym header_is ∙ h)

      pub fits_records : header ≡ true → (r : Bool) → r ≡ all_to count (record_fits bytes) → r ≡ form_fits p bytes
      unfolding form_fits
      fits_records h r e = rw (sized, sym header_is ∙ h, counts) e

-- ---- the masses of one threshold, where the form fits

module _ (bytes : List ℕ) (count i : ℕ) (l : i < count) (known : all_to count (record_fits bytes) ≡ true)
    (size : length bytes ≡ form_size count (masses_to (record_in bytes) count)) where
  pub part_few : live_count (record_in bytes i) ≤ wide
  part_few = few_fit bytes i ((record_says bytes i).0 ((all_reads (record_fits bytes) count).0 known i l))

  pub part_inside : mass_offset bytes count i + 8 * live_count (record_in bytes i) ≤ length bytes
  unfolding mass_offset form_size
  part_inside = omega (arith, size, masses_within (record_in bytes) count i l)

-- the next offset
pub offset_next : (bytes : List ℕ) (count i : ℕ) → mass_offset bytes count i + 8 * live_count (record_in bytes i) ≡ mass_offset bytes count (i + 1)
unfolding mass_offset masses_to
offset_next bytes count i = rw (add-one i) (omega arith)

pub offset_first : (bytes : List ℕ) (count : ℕ) → header_size + record_size * count ≡ mass_offset bytes count 0
unfolding mass_offset masses_to record_offset
offset_first bytes count = omega arith

-- a part whose rest is cleared and whose first words are filled
pub part_filled : (count : ℕ) (f : ℕ → ℕ) (q q' q'' : List ℕ) → length q ≡ wide → count ≤ wide
    → q' ≡ take count q ++ replicate (length q - count) 0 → q'' ≡ filled count f q' → q'' ≡ filled count f (replicate wide 0)
part_filled count f q q' q'' size few e h =
    let rest : List ℕ = replicate (length q - count) 0 in
    let sum : count + (length q - count) ≡ wide = omega (arith, size, few) in
    let whole : replicate count 0 ++ rest ≡ replicate wide 0 = replicate-append-replicate count (length q - count) 0 ∙ rw sum in
    h ∙ ap (filled count f) e
    ∙ filled-over count f (take count q) (replicate count 0) rest (length-take-le count q (omega (arith, size, few))) (length-replicate count 0)
    ∙ ap (filled count f) whole

-- the part that was made
pub part_made : (bytes : List ℕ) (count i n at : ℕ) (q : List ℕ) → n ≡ live_count (record_in bytes i) → at ≡ mass_offset bytes count i
    → q ≡ filled n (column 8 at 8 bytes) (replicate wide 0) → q ≡ part_in bytes count i
unfolding part_in
part_made bytes count i n at q e f h = h ∙ rw (e, f)

-- what a form that fits asks of the functions that read it
module _ (p : Plan) (bytes : List ℕ) (form : form_fits p bytes ≡ true) where
  pub form_long : header_size + record_size * p.count ≤ length bytes
  unfolding form_size record_offset
  form_long = omega (arith, ((form_says p bytes).0 form).sized)

  pub form_held : RecordsAndMasses p.count bytes
  unfolding form_fits
  form_held = record {
    records = (and_true (header_fits p bytes) _ (and_true (eq? (length bytes) (form_size p.count (masses_in p bytes))) _ form).1).1;
    sized = ((form_says p bytes).0 form).sized;
  }

  pub judgeable : (n : ℕ) → plan_refusal p ≡ 0 → (p.horizon ≤ horizon_limit) × Judgeable p (portion_of p n) n bytes
  judgeable n e = let ok = (accepted p).0 e in (
    ok.horizon_range.1,
    record {
      few = ok.count_range.1;
      allowed = λ i l. (ok.allowance_range i l).1;
      spendable = portion_fits p ok n;
      held = form_held;
    },
  )

-- the portion that is computed from the n that was read
pub portion_read : (p : Plan) (bytes : List ℕ) (n : ℕ) (portion : Portion) → n ≡ field 4 draws_field bytes → portion ≡ portion_of p n
    → portion_of p (field 4 draws_field bytes) ≡ portion
portion_read p bytes n portion n_is is = rw (← n_is) (sym is)

-- records have a header before them
pub held_long : (count : ℕ) (bytes : List ℕ) → RecordsAndMasses count bytes → 24 ≤ length bytes
unfolding form_size record_offset
held_long count bytes h = omega (arith, h.sized)

-- ---- refusal 11, part by part

-- an open record whose numbers pass, by its masses
module _ (e n s : ℕ) (t : Threshold) where
  abbrev w : Walked
  w = t.walked

  pub masses_decide : numbers_sound e n s Open t ≡ true → (count : ℕ) → count ≡ counts_between w.lower w.upper → (f : ℕ → ℕ) (table : List ℕ) (r : Bool)
      → r ≡ (all_up_to mass_limit (take count (filled count f table)) && le? M (sum (take count (filled count f table)) + w.over + w.under))
      → r ≡ record_sound e n s Open t (filled (counts_between w.lower w.upper) f table)
  unfolding words_sound row_of
  masses_decide passed count is f table r h =
      let b = boundaries_say e n s w (and_true (rounded_fits n w) _ passed).1 in
      let live : count ≡ w.upper - first_above w.lower = is ∙ gap_live w b.signed in
      rw (passed, ← is, ← live) h

-- one threshold, with n masses from an offset on
module _ (bytes : List ℕ) (count : ℕ) (form : RecordsAndMasses count bytes) (i : ℕ) (l : i < count) (n at : ℕ) (live : n ≡ live_count (record_in bytes i))
    (here : at ≡ mass_offset bytes count i) where
  pub held_few : n ≤ wide
  held_few = rw live (part_few bytes count i l form.records form.sized)

  pub held_inside : at + mass_size * n ≤ length bytes
  held_inside = rw (live, here) (part_inside bytes count i l form.records form.sized)

  pub held_next : at + mass_size * n ≡ mass_offset bytes count (i + 1)
  held_next = rw (live, here) (offset_next bytes count i)

  -- its masses at the front of any part that has room for them
  pub held_front : (q q₀ : List ℕ) → q ≡ filled n (column mass_size at mass_size bytes) q₀ → n ≤ length q₀ → take n q ≡ take n (part_in bytes count i)
  held_front q q₀ e room =
      let f = column mass_size at mass_size bytes in
      ap (take n) e
      ∙ filled-take n f q₀ (replicate wide 0) room (omega (arith, held_few, length-replicate {A = ℕ} wide 0))
      ∙ ap (take n) (part_made bytes count i n at (filled n f (replicate wide 0)) live here refl)

  pub held_sound : (t : Threshold) → t ≡ record_in bytes i → (e draws ones : ℕ)
      → record_sound e draws ones t.mark t (filled (live_count t) (column mass_size at mass_size bytes) (replicate wide 0))
      ≡ record_sound e draws ones (record_in bytes i).mark (record_in bytes i) (part_in bytes count i)
  held_sound t is e draws ones =
      rw is (ap (record_sound e draws ones (record_in bytes i).mark (record_in bytes i)) (part_made bytes count i _ at _ refl here refl))

-- what refusal 11 judges of each threshold of a plan
pub sound_held : (p : Plan) (bytes : List ℕ) (n ones : ℕ) (few : p.count ≤ count_limit) (i : ℕ) (l : i < p.count)
    → record_sound_at p (words_in p bytes) n ones i (record_at (state_in p bytes) i)
    ≡ record_sound (spending_of p i n) n ones (record_in bytes i).mark (record_in bytes i) (part_in bytes p.count i)
sound_held p bytes n ones few i l = rw (record_held p bytes few i l, part_held p bytes i l)

-- n and S of the test that bytes hold are judged first, then the thresholds
module _ (p : Plan) (bytes : List ℕ) (n ones : ℕ) (n_is : n ≡ field 4 draws_field bytes) (ones_is : ones ≡ field 4 ones_field bytes) where
  n_held : (state_in p bytes).n ≡ n
  unfolding state_in
  n_held = sym n_is

  ones_held : (state_in p bytes).ones ≡ ones
  unfolding state_in
  ones_held = sym ones_is

  abbrev is_sound_in : Bool
  is_sound_in = state_sound p (state_in p bytes) (words_in p bytes)

  pub sound_late : p.horizon < n → false ≡ is_sound_in
  unfolding state_sound
  sound_late h = rw (n_held, le?_fails n p.horizon (omega arith))

  module _ (early : n ≤ p.horizon) where
    pub sound_ones : n < ones → false ≡ is_sound_in
    unfolding state_sound
    sound_ones h = rw (n_held, ones_held, le?_complete n p.horizon early, le?_fails ones n h)

    pub sound_parts : ones ≤ n → p.count ≤ count_limit → (b : Bool) → b ≡ all_to p.count (part_passes p bytes n ones) → b ≡ is_sound_in
    unfolding state_sound
    sound_parts h few b e =
        rw (n_held, ones_held, le?_complete n p.horizon early, le?_complete ones n h)
        (e ∙ sym (all_cong p.count _ _ (λ i l. sound_held p bytes n ones few i l)))

-- ---- each way out of a reading

module _ (p : Plan) (bytes words : List ℕ) where
  abbrev Hands : Result State Refusal → List ℕ → Type 0
  Hands r ws = (loaded_as r ≡ loaded p bytes words) × (ws ≡ words_after p bytes words)

  -- a refusal that `?` hands on
  pub read_refused : (r : Result State Refusal) (d : Refusal) → IsErrAnd r (λ f. f ≡ d) → number_of d ≡ read_refusal p bytes words → Hands r words
  unfolding loaded words_after
  read_refused r d h e = let q = err_from_is_err_and r h in rw (q.1, q.2) (go (number_of d) (number_is d) e)
    where
      go : (n : ℕ) → 1 ≤ n → n ≡ read_refusal p bytes words
          → (◌≡◌ {A = Loaded} (record { refusal = n; state = no_state }) (loaded p bytes words)) × (words ≡ words_after p bytes words)
      go zero l e = absurd (omega (arith, l))
      go (suc n) l e = rw (← e) (refl, refl)

  pub read_plan : (d : Refusal) → number_of d ≡ plan_refusal p → number_of d ≡ read_refusal p bytes words
  unfolding read_refusal
  read_plan d e = rw (← e) (sym (first_some (number_of d) _ (λ z. omega (arith, number_is d, z))))

  pub read_none : read_refusal p bytes words ≡ 0 → (s : State) → s ≡ state_in p bytes → (ws : List ℕ) → ws ≡ words_in p bytes → Hands (Ok s) ws
  unfolding loaded words_after
  read_none none s se ws we = rw (none, se, we) (refl, refl)

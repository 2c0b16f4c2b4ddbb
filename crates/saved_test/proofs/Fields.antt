-- The fields of a saved form, of a test whose numbers have their widths (specs/Form, specs/Reading).
use mathlib.Core.Path.{◌≡◌, refl, ap, ◌∙◌}
use mathlib.Core.List.{List, [], ◌++◌, append_assoc, append-nil}
use Prim.Native.Nat.{ℕ, ◌+◌, ◌*◌, ◌^◌, ◌≤◌, ◌<◌}
use native.Mathlib.Omega.{arith}
use lib.IntN.{ℤ, pos, negsuc}
use lib.ListN.{length, get_or}
use mir.Syntax.{w32}
use mir.Val.{SFits, to_z, of_z}
use mir.ValLaws.{to_z-of_z}
use Rattle.walk.specs.declared.Mark.{Mark}
use Rattle.walk.specs.declared.Mark.TheVariants.{Open, Above, AtMost}
use Rattle.walk.specs.declared.Walked.{Walked}
use Rattle.plan.specs.Places.{join_to}
use Rattle.bucket_test.specs.Words.{part_at}
use Rattle.bucket_test.specs.Turn.{record_at}
use Rattle.plan.specs.declared.Plan.{Plan}
use Rattle.bucket_test.specs.declared.Threshold.{Threshold}
use Rattle.bucket_test.specs.declared.State.{State}
use Rattle.little.specs.Little.{to_le, field}
use Rattle.little.proofs.LittleLaws.{to_length, field_right, field_next, field_here, field_last}
use Rattle.little.proofs.EntryLaws.{join_field}
use Rattle.saved_test.specs.Form.{header_size, record_size, mass_size, record_offset, live_count, masses_to, mark_code, mark_step, record_bytes, mass_bytes, saved_masses, saved_size, header, saved_header, record_entries, mass_entries, saved_form}
use Rattle.saved_test.specs.RoundTrip.{Typed}
use Rattle.saved_test.specs.Reading.{mark_of, record_from}
use Rattle.saved_test.proofs.Sizes.{record_length, mass_length, masses_length, join_field_at, header-length, front_length}

-- ---- a record

code_small : (m : Mark) → mark_code m < 256 ^ 4
code_small Open = omega arith
code_small (Above u) = omega arith
code_small (AtMost u) = omega arith

mark_back : (m : Mark) → mark_of (mark_code m) (mark_step m) ≡ m
mark_back Open = refl
mark_back (Above u) = refl
mark_back (AtMost u) = refl

bits_small : (z : ℤ) → SFits w32 z → of_z w32 z < 256 ^ 4
bits_small (pos n) h = omega (arith, h.sfits)
bits_small (negsuc n) h = omega (arith, h.sfits)

module _ (t : Threshold) (typed : Typed t.walked) (early : mark_step t.mark < 256 ^ 4) (few : t.walked.rounded < 256 ^ 4) where
  abbrev w : Walked
  w = t.walked

  in_code : field 4 0 (record_bytes t) ≡ mark_code t.mark
  unfolding record_bytes
  in_code = field_here 4 (mark_code t.mark) _ (code_small t.mark)

  in_step : field 4 4 (record_bytes t) ≡ mark_step t.mark
  unfolding record_bytes
  in_step = field_next 4 0 4 (mark_code t.mark) _ ∙ field_here 4 (mark_step t.mark) _ early

  in-lower : field 4 8 (record_bytes t) ≡ of_z w32 w.lower
  unfolding record_bytes
  in-lower =
      field_next 4 4 4 (mark_code t.mark) _ ∙ field_next 4 0 4 (mark_step t.mark) _
      ∙ field_here 4 (of_z w32 w.lower) _ (bits_small w.lower typed.lower_fits)

  in-upper : field 4 12 (record_bytes t) ≡ w.upper
  unfolding record_bytes
  in-upper =
      field_next 4 8 4 (mark_code t.mark) _ ∙ field_next 4 4 4 (mark_step t.mark) _ ∙ field_next 4 0 4 (of_z w32 w.lower) _
      ∙ field_here 4 w.upper _ typed.upper_fits

  in-over : field 8 16 (record_bytes t) ≡ w.over
  unfolding record_bytes
  in-over =
      field_next 8 12 4 (mark_code t.mark) _ ∙ field_next 8 8 4 (mark_step t.mark) _ ∙ field_next 8 4 4 (of_z w32 w.lower) _
      ∙ field_next 8 0 4 w.upper _ ∙ field_here 8 w.over _ typed.over_fits

  in-under : field 8 24 (record_bytes t) ≡ w.under
  unfolding record_bytes
  in-under =
      field_next 8 20 4 (mark_code t.mark) _ ∙ field_next 8 16 4 (mark_step t.mark) _ ∙ field_next 8 12 4 (of_z w32 w.lower) _
      ∙ field_next 8 8 4 w.upper _ ∙ field_next 8 0 8 w.over _ ∙ field_here 8 w.under _ typed.under_fits

  in-rounded : field 4 32 (record_bytes t) ≡ w.rounded
  unfolding record_bytes
  in-rounded =
      field_next 4 28 4 (mark_code t.mark) _ ∙ field_next 4 24 4 (mark_step t.mark) _ ∙ field_next 4 20 4 (of_z w32 w.lower) _
      ∙ field_next 4 16 4 w.upper _ ∙ field_next 4 8 8 w.over _ ∙ field_next 4 0 8 w.under _ ∙ field_last 4 w.rounded few

  -- bytes that have the record at an offset
  module _ (bytes : List ℕ) (at : ℕ) (here : (width o : ℕ) → o + width ≤ record_size → field width (at + o) bytes ≡ field width o (record_bytes t)) where
    first : field 4 at bytes ≡ field 4 0 (record_bytes t)
    first = let z : at + 0 ≡ at = omega arith in rw z at (here 4 0 (omega arith))

    pub code_is : field 4 at bytes ≡ mark_code t.mark
    code_is = first ∙ in_code

    pub step_is : field 4 (at + 4) bytes ≡ mark_step t.mark
    step_is = here 4 4 (omega arith) ∙ in_step

    pub record_from_lem : record_from bytes at ≡ t
    unfolding record_from
    record_from_lem = λ j. record {
      mark = mark_is j;
      walked = record { lower = lower_is j; upper = upper_is j; over = over_is j; under = under_is j; rounded = rounded_is j };
    }
      where
        mark_is : mark_of (field 4 at bytes) (field 4 (at + 4) bytes) ≡ t.mark
        mark_is = rw (code_is, step_is) (mark_back t.mark)

        lower_is : to_z w32 (field 4 (at + 8) bytes) ≡ w.lower
        lower_is = ap (to_z w32) (here 4 8 (omega arith) ∙ in-lower) ∙ to_z-of_z w32 w.lower typed.lower_fits

        upper_is : field 4 (at + 12) bytes ≡ w.upper
        upper_is = here 4 12 (omega arith) ∙ in-upper

        over_is : field 8 (at + 16) bytes ≡ w.over
        over_is = here 8 16 (omega arith) ∙ in-over

        under_is : field 8 (at + 24) bytes ≡ w.under
        under_is = here 8 24 (omega arith) ∙ in-under

        rounded_is : field 4 (at + 32) bytes ≡ w.rounded
        rounded_is = here 4 32 (omega arith) ∙ in-rounded

-- a mass of a part
mass_at : (count : ℕ) (part : List ℕ) (j : ℕ) → j < count → get_or part j 0 < 256 ^ 8 → field mass_size (mass_size * j) (mass_bytes count part) ≡ get_or part j 0
unfolding mass_bytes
mass_at count part j l small =
    let e : mass_size * j + 0 ≡ mass_size * j = omega arith in
    (rw (append-nil, e) at (join_field (λ j. to_le mass_size (get_or part j 0)) mass_size (λ j. to_length mass_size (get_or part j 0)) count [] j mass_size 0 l (omega arith)))
    ∙ field_last mass_size (get_or part j 0) small

-- ---- a form

module _ (p : Plan) (s : State) (words : List ℕ) where
  abbrev form : List ℕ
  form = saved_form p s words

  -- the fields of the header, one behind the other
  unrolled : saved_form p s words
      ≡ to_le 2 p.count ++ (to_le 2 (saved_masses p s) ++ (to_le 2 header_size ++ (to_le 2 (record_offset p.count) ++ (to_le 4 (saved_size p s)
      ++ (to_le 4 s.n ++ (to_le 4 s.ones ++ (to_le 2 record_size ++ (to_le 2 mass_size ++ (record_entries p s ++ mass_entries p s words)))))))))
  unfolding saved_form header
  unrolled = simp append_assoc

  -- a field of record i
  pub in-record : (i : ℕ) → i < p.count → (width o : ℕ) → o + width ≤ record_size
      → field width (record_offset i + o) form ≡ field width o (record_bytes (record_at s i))
  unfolding saved_form record_entries record_offset
  in-record i l width o h =
      let z : header_size + record_size * i + o ≡ header_size + (record_size * i + o) = omega arith in
      rw z
      (field_right width (record_size * i + o) (saved_header p s) (record_entries p s ++ mass_entries p s words) header_size (header-length p s)
      ∙ join_field _ record_size (λ i. record_length (record_at s i)) p.count (mass_entries p s words) i width o l h)

  -- mass j of the threshold at place i
  masses_of : ℕ → List ℕ
  masses_of i = mass_bytes (live_count (record_at s i)) (part_at i words)

  in-masses : (i : ℕ) → i < p.count → (o : ℕ) → o + mass_size ≤ length (masses_of i)
      → field mass_size (record_offset p.count + (length (join_to i masses_of) + o)) form ≡ field mass_size o (masses_of i)
  unfolding saved_form mass_entries masses_of
  in-masses i l o h =
      rw (← append_assoc (saved_header p s) (record_entries p s) (mass_entries p s words))
      (field_right mass_size (length (join_to i masses_of) + o) (saved_header p s ++ record_entries p s) (mass_entries p s words) (record_offset p.count) (front_length p s)
      ∙ rw append-nil at (join_field_at masses_of p.count [] i mass_size o l h))

  pub in-mass : (i : ℕ) → i < p.count → (j : ℕ) → j < live_count (record_at s i) → get_or (part_at i words) j 0 < 256 ^ 8
      → field mass_size (record_offset p.count + mass_size * masses_to (record_at s) i + mass_size * j) form ≡ get_or (part_at i words) j 0
  unfolding masses_of
  in-mass i l j k small =
      let before = masses_length (record_at s) (λ i. part_at i words) i in
      let size = mass_length (live_count (record_at s i)) (part_at i words) in
      let e : record_offset p.count + mass_size * masses_to (record_at s) i + mass_size * j
      ≡ record_offset p.count + (length (join_to i masses_of) + mass_size * j) = omega arith in
      rw e (in-masses i l (mass_size * j) (omega arith) ∙ mass_at (live_count (record_at s i)) (part_at i words) j k small)

  -- the header
  module _ (count : p.count < 256 ^ 2) (masses : saved_masses p s < 256 ^ 2) (n : s.n < 256 ^ 4) (ones : s.ones < 256 ^ 4)
      (offset : record_offset p.count < 256 ^ 2) (size : saved_size p s < 256 ^ 4) where
    pub in_count : field 2 0 form ≡ p.count
    in_count = rw unrolled (field_here 2 p.count _ count)

    pub in-masses-count : field 2 2 form ≡ saved_masses p s
    in-masses-count = rw unrolled (field_next 2 0 2 p.count _ ∙ field_here 2 (saved_masses p s) _ masses)

    pub in-first : field 2 4 form ≡ header_size
    in-first = rw unrolled (field_next 2 2 2 p.count _ ∙ field_next 2 0 2 (saved_masses p s) _ ∙ field_here 2 header_size _ (omega arith))

    pub in-second : field 2 6 form ≡ record_offset p.count
    in-second =
        rw unrolled
        (field_next 2 4 2 p.count _ ∙ field_next 2 2 2 (saved_masses p s) _ ∙ field_next 2 0 2 header_size _
        ∙ field_here 2 (record_offset p.count) _ offset)

    pub in_size : field 4 8 form ≡ saved_size p s
    in_size =
        rw unrolled
        (field_next 4 6 2 p.count _ ∙ field_next 4 4 2 (saved_masses p s) _ ∙ field_next 4 2 2 header_size _
        ∙ field_next 4 0 2 (record_offset p.count) _ ∙ field_here 4 (saved_size p s) _ size)

    pub in-n : field 4 12 form ≡ s.n
    in-n =
        rw unrolled
        (field_next 4 10 2 p.count _ ∙ field_next 4 8 2 (saved_masses p s) _ ∙ field_next 4 6 2 header_size _
        ∙ field_next 4 4 2 (record_offset p.count) _ ∙ field_next 4 0 4 (saved_size p s) _ ∙ field_here 4 s.n _ n)

    pub in_ones : field 4 16 form ≡ s.ones
    in_ones =
        rw unrolled
        (field_next 4 14 2 p.count _ ∙ field_next 4 12 2 (saved_masses p s) _ ∙ field_next 4 10 2 header_size _
        ∙ field_next 4 8 2 (record_offset p.count) _ ∙ field_next 4 4 4 (saved_size p s) _ ∙ field_next 4 0 4 s.n _
        ∙ field_here 4 s.ones _ ones)

    pub in-record-size : field 2 20 form ≡ record_size
    in-record-size =
        rw unrolled
        (field_next 2 18 2 p.count _ ∙ field_next 2 16 2 (saved_masses p s) _ ∙ field_next 2 14 2 header_size _
        ∙ field_next 2 12 2 (record_offset p.count) _ ∙ field_next 2 8 4 (saved_size p s) _ ∙ field_next 2 4 4 s.n _
        ∙ field_next 2 0 4 s.ones _ ∙ field_here 2 record_size _ (omega arith))

    pub in-mass-size : field 2 22 form ≡ mass_size
    in-mass-size =
        rw unrolled
        (field_next 2 20 2 p.count _ ∙ field_next 2 18 2 (saved_masses p s) _ ∙ field_next 2 16 2 header_size _
        ∙ field_next 2 14 2 (record_offset p.count) _ ∙ field_next 2 10 4 (saved_size p s) _ ∙ field_next 2 6 4 s.n _
        ∙ field_next 2 2 4 s.ones _ ∙ field_next 2 0 2 record_size _ ∙ field_here 2 mass_size _ (omega arith))

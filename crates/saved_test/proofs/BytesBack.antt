-- Accepted bytes hold a test that a writing accepts, and are its form (specs/RoundTrip: BytesBack).
use mathlib.Core.Path.{◌≡◌, refl, sym, ap, ◌∙◌}
use mathlib.Core.List.{List, [], ◌∷◌, ◌++◌}
use mathlib.Core.Logic.{◌⊎◌, ⊎_elim}
use Prim.Native.Nat.{ℕ, zero, suc, ◌+◌, ◌*◌, ◌^◌, ◌≤◌, ◌<◌}
use native.Mathlib.Nat.{mul-zero, mul-suc, pow-suc, eq-or-lt_of_le}
use native.Mathlib.Omega.{arith}
use lib.ListN.{length, take, drop, replicate}
use lib.Seq.{drop-drop, take-add, take_all, get_or-drop}
use mir.Syntax.{w32}
use mir.Val.{to_z, of_z}
use mir.ValLaws.{to_z-Fits, of_z-to_z}
use Rattle.walk.specs.Units.{wide}
use Rattle.plan.specs.Places.{join_to}
use Rattle.plan.specs.Plan.{Accepted}
use Rattle.bucket_test.specs.Words.{part_at}
use Rattle.bucket_test.specs.Turn.{record_at}
use Rattle.plan.specs.declared.Plan.{Plan}
use Rattle.bucket_test.specs.declared.Threshold.{Threshold}
use Rattle.plan.proofs.PlaceLists.{join_cong}
use Rattle.plan.proofs.AcceptedLaws.{accepted}
use Rattle.little.specs.Little.{to_le, from_le, field, column, Bytes}
use Rattle.little.specs.Little.{filled}
use Rattle.little.proofs.LittleLaws.{to_field}
use Rattle.little.proofs.FilledLaws.{filled-get}
use Rattle.saved_test.specs.Form.{header_size, record_size, mass_size, record_offset, form_size, live_by, live_count, masses_to, mark_code, mark_step, record_bytes, mass_bytes, saved_masses, header, saved_header, record_entries, mass_entries, saved_form}
use Rattle.saved_test.specs.Reading.{mark_of, record_from, record_in, mass_offset, part_in, state_in, words_in, masses_in}
use Rattle.saved_test.specs.Refusals.{code_in, step_in, between_in, FittingRecord, Fitting}
use Rattle.saved_test.specs.RoundTrip.{Typed, BytesBack}
use Rattle.saved_test.proofs.Refusals.{form_says, read_refusal_lem}
use Rattle.saved_test.proofs.Judged.{save_says, masses_cong}
use Rattle.saved_test.proofs.HeldLaws.{record_held, part_held, words_held}

-- ---- fields are small

from_small : (n : ℕ) (bs : List ℕ) → Bytes bs → from_le (take n bs) < 256 ^ n
unfolding from_le
from_small zero bs h = omega arith
from_small (suc n) [] h = rw (pow-suc 256 n) (omega (arith, from_small n [] h))
from_small (suc n) (b ∷ bs) h = rw (pow-suc 256 n) (omega (arith, from_small n bs (λ i. h (suc i)), h 0))

field_small : (bytes : List ℕ) → Bytes bytes → (width at : ℕ) → field width at bytes < 256 ^ width
unfolding field
field_small bytes h width at = from_small width (drop at bytes) (λ i. rw (get_or-drop at bytes i 0) (h (at + i)))

-- ---- marks

mark_back : (c s : ℕ) → ((c ≡ 0) × (s ≡ 0)) ⊎ ((c ≡ 1) ⊎ (c ≡ 2)) → (mark_code (mark_of c s) ≡ c) × (mark_step (mark_of c s) ≡ s)
mark_back c s = ⊎_elim (λ q. rw (q.0, q.1) (refl, refl)) (⊎_elim (λ q. rw q (refl, refl)) (λ q. rw q (refl, refl)))

-- ---- so many bytes from an offset on

module _ (bytes : List ℕ) where
  unfoldable part : ℕ → ℕ → List ℕ
  part at n = take n (drop at bytes)

  part_join : (at m n : ℕ) → part at m ++ part (at + m) n ≡ part at (m + n)
  unfolding part
  part_join at m n = rw (← drop-drop m at bytes) (sym (take-add m n (drop at bytes)))

  part_then : (at m n next : ℕ) → next ≡ at + m → part at m ++ part next n ≡ part at (m + n)
  part_then at m n next e = rw e (part_join at m n)

  part_all : (n : ℕ) → length bytes ≡ n → part 0 n ≡ bytes
  unfolding part
  part_all n e = take_all n bytes (omega arith)

  -- entries that are parts, joined
  parts_join : (at size n : ℕ) → join_to n (λ i. part (at + size * i) size) ≡ part at (size * n)
  unfolding join_to part
  parts_join at size zero = rw (mul-zero size)
  parts_join at size (suc n) = rw (parts_join at size n, mul-suc size n) (part_join at (size * n) size)

  -- the masses of thresholds, one behind the other
  masses_join : (records : ℕ → Threshold) (at n : ℕ)
      → join_to n (λ i. part (at + mass_size * masses_to records i) (mass_size * live_count (records i))) ≡ part at (mass_size * masses_to records n)
  unfolding join_to masses_to part
  masses_join records at zero = refl
  masses_join records at (suc n) =
      let e : mass_size * (masses_to records n + live_count (records n)) ≡ mass_size * masses_to records n + mass_size * live_count (records n) = omega arith in
      rw (masses_join records at n, e) (part_join at (mass_size * masses_to records n) (mass_size * live_count (records n)))

  module _ (each : Bytes bytes) where
    field_part : (width at : ℕ) → at + width ≤ length bytes → to_le width (field width at bytes) ≡ part at width
    unfolding part
    field_part = to_field bytes each

    bits_back : (at : ℕ) → of_z w32 (to_z w32 (field 4 at bytes)) ≡ field 4 at bytes
    bits_back at = of_z-to_z w32 (field 4 at bytes) (record { fits = omega (arith, field_small bytes each 4 at) })

    typed : (at : ℕ) → Typed (record_from bytes at).walked
    unfolding record_from
    typed at = record {
      lower_fits = to_z-Fits w32 (field 4 (at + 8) bytes) (record { fits = omega (arith, field_small bytes each 4 (at + 8)) });
      upper_fits = field_small bytes each 4 (at + 12);
      over_fits = field_small bytes each 8 (at + 16);
      under_fits = field_small bytes each 8 (at + 24);
    }

    record_part : (i : ℕ) → FittingRecord bytes i → record_offset i + record_size ≤ length bytes
        → record_bytes (record_in bytes i) ≡ part (record_offset i) record_size
    unfolding record_bytes record_from
    record_part i f fits =
        let at = record_offset i in
        let k = mark_back (code_in bytes i) (step_in bytes i) f.mark_is_known in
        rw (
          k.0,
          k.1,
          bits_back (at + 8),
          field_part 4 at (omega arith),
          field_part 4 (at + 4) (omega arith),
          field_part 4 (at + 8) (omega arith),
          field_part 4 (at + 12) (omega arith),
          field_part 8 (at + 16) (omega arith),
          field_part 8 (at + 24) (omega arith),
          field_part 4 (at + 32) (omega arith),
          part_then (at + 24) 8 4 (at + 32) (omega arith),
          part_then (at + 16) 8 12 (at + 24) (omega arith),
          part_then (at + 12) 4 20 (at + 16) (omega arith),
          part_then (at + 8) 4 24 (at + 12) (omega arith),
          part_then (at + 4) 4 28 (at + 8) (omega arith),
        ) (part_join at 4 32)

    -- the masses of one part
    masses_part : (at count : ℕ) → count ≤ wide → at + mass_size * count ≤ length bytes
        → mass_bytes count (filled count (column mass_size at mass_size bytes) (replicate wide 0)) ≡ part at (mass_size * count)
    unfolding mass_bytes
    masses_part at count few fits =
        join_cong count _ (λ j. part (at + mass_size * j) mass_size)
        (λ j l. rw (filled-get wide count (column mass_size at mass_size bytes) few j l) (field_part mass_size (at + mass_size * j) (omega arith)))
        ∙ parts_join at mass_size count

-- ---- how many masses

pub few_fit : (bytes : List ℕ) (i : ℕ) → FittingRecord bytes i → live_count (record_in bytes i) ≤ wide
unfolding record_from
few_fit bytes i f = go (code_in bytes i) f.counts_hold
  where
    go : (code : ℕ) → (code ≡ 0 → (1 ≤ between_in bytes i) × (between_in bytes i ≤ wide)) → live_by (mark_of code (step_in bytes i)) (record_in bytes i).walked ≤ wide
    go zero h = (h refl).1
    go (suc zero) h = omega arith
    go (suc (suc code)) h = omega arith

-- the masses of a threshold lie among all
pub masses_within : (records : ℕ → Threshold) (n i : ℕ) → i < n → masses_to records i + live_count (records i) ≤ masses_to records n
unfolding masses_to
masses_within records zero i l = absurd (omega arith)
masses_within records (suc n) i l =
    ⊎_elim (λ q. let f : i ≡ n = omega arith in rw f (omega arith)) (λ k. omega (arith, masses_within records n i (omega arith))) (eq-or-lt_of_le l)

module _ (p : Plan) (bytes : List ℕ) (each : Bytes bytes) (ok : Accepted p) (f : Fitting p bytes) where
  few : (i : ℕ) → i < p.count → live_count (record_in bytes i) ≤ wide
  few i l = few_fit bytes i (f.records i l)

  record_at_lem : (i : ℕ) → i < p.count → record_at (state_in p bytes) i ≡ record_in bytes i
  record_at_lem = record_held p bytes ok.count_range.1

  masses_same : saved_masses p (state_in p bytes) ≡ masses_in p bytes
  masses_same = masses_cong (record_at (state_in p bytes)) (record_in bytes) p.count record_at_lem

  -- ---- the form, part by part

  abbrev piece : ℕ → ℕ → List ℕ
  piece = part bytes

  -- a number of the header, which a field holds
  front : header_size ≤ length bytes
  unfolding form_size record_offset
  front = omega (arith, f.sized)

  is_piece : (width at v : ℕ) → field width at bytes ≡ v → at + width ≤ header_size → to_le width v ≡ piece at width
  is_piece width at v e h = ap (to_le width) (sym e) ∙ field_part bytes each width at (omega (arith, front))

  n_in : (field 4 12 bytes ≡ (state_in p bytes).n) × (field 4 16 bytes ≡ (state_in p bytes).ones)
  unfolding state_in
  n_in = (refl, refl)

  header_part : saved_header p (state_in p bytes) ≡ piece 0 header_size
  unfolding header
  header_part =
      rw (
        masses_same,
        is_piece 2 0 p.count f.count (omega arith),
        is_piece 2 2 (masses_in p bytes) f.masses (omega arith),
        is_piece 2 4 header_size f.record_offset_is (omega arith),
        is_piece 2 6 (record_offset p.count) f.mass_offset_is (omega arith),
        is_piece 4 8 (form_size p.count (masses_in p bytes)) f.size (omega arith),
        is_piece 4 12 (state_in p bytes).n n_in.0 (omega arith),
        is_piece 4 16 (state_in p bytes).ones n_in.1 (omega arith),
        is_piece 2 20 record_size f.record_size_is (omega arith),
        is_piece 2 22 mass_size f.mass_size_is (omega arith),
        part_join bytes 20 2 2,
        part_join bytes 16 4 4,
        part_join bytes 12 4 8,
        part_join bytes 8 4 12,
        part_join bytes 6 2 16,
        part_join bytes 4 2 18,
        part_join bytes 2 2 20,
      ) (part_join bytes 0 2 22)

  records_part : record_entries p (state_in p bytes) ≡ piece header_size (record_size * p.count)
  unfolding record_entries record_offset form_size
  records_part =
      join_cong p.count _ (λ i. piece (header_size + record_size * i) record_size) entry
      ∙ parts_join bytes header_size record_size p.count
    where
      entry : (i : ℕ) → i < p.count → record_bytes (record_at (state_in p bytes) i) ≡ piece (header_size + record_size * i) record_size
      entry i l = rw (record_at_lem i l) (record_part bytes each i (f.records i l) (omega (arith, f.sized)))

  masses_parts : mass_entries p (state_in p bytes) (words_in p bytes) ≡ piece (record_offset p.count) (mass_size * masses_in p bytes)
  unfolding mass_entries part_in mass_offset form_size
  masses_parts =
      join_cong p.count _ (λ i. piece (record_offset p.count + mass_size * masses_to (record_in bytes) i) (mass_size * live_count (record_in bytes i))) entry
      ∙ masses_join bytes (record_in bytes) (record_offset p.count) p.count
    where
      entry : (i : ℕ) → i < p.count → mass_bytes (live_count (record_at (state_in p bytes) i)) (part_at i (words_in p bytes))
          ≡ piece (record_offset p.count + mass_size * masses_to (record_in bytes) i) (mass_size * live_count (record_in bytes i))
      entry i l = rw (record_at_lem i l, part_held p bytes i l) (masses_part bytes each (mass_offset bytes p.count i) (live_count (record_in bytes i)) (few i l) (omega (arith, f.sized, masses_within (record_in bytes) p.count i l)))

  offset_is : record_offset p.count ≡ header_size + record_size * p.count
  unfolding record_offset
  offset_is = refl

  whole : length bytes ≡ header_size + (record_size * p.count + mass_size * masses_in p bytes)
  unfolding form_size record_offset
  whole = omega (arith, f.sized)

  form_whole : saved_form p (state_in p bytes) (words_in p bytes) ≡ bytes
  unfolding saved_form
  form_whole =
      let k = record_size * p.count in
      let m = mass_size * masses_in p bytes in
      rw (header_part, records_part, masses_parts, part_then bytes header_size k m (record_offset p.count) offset_is, part_join bytes 0 header_size (k + m))
      (part_all bytes (header_size + (k + m)) whole)

-- ---- an accepted reading

pub bytes_back : BytesBack
bytes_back p bytes lent each e =
    let k = (read_refusal_lem p bytes lent).by_none.0 e in
    let ok = (accepted p).0 k.0 in
    let f = (form_says p bytes).0 k.1.1.0 in (
      record {
        accepted = (save_says p (state_in p bytes) (words_in p bytes)).1 (k.0, (words_held p bytes, k.1.1.1));
        typed = λ i l. rw (record_at_lem p bytes each ok f i l) (typed bytes each (record_offset i));
      },
      form_whole p bytes each ok f,
    )

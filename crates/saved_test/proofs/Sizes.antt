-- Lengths of the parts of a saved form (specs/Form).
use mathlib.Core.Path.{◌≡◌, refl, ◌∙◌}
use mathlib.Core.List.{List, ◌++◌, append_assoc}
use mathlib.Core.Logic.{⊎_elim}
use Prim.Native.Nat.{ℕ, zero, suc, ◌+◌, ◌*◌, ◌≤◌, ◌<◌}
use native.Mathlib.Nat.{eq-or-lt_of_le}
use native.Mathlib.Omega.{arith}
use lib.ListN.{length, get_or, length-append}
use Rattle.plan.specs.Places.{join_to}
use Rattle.bucket_test.specs.Words.{part_at}
use Rattle.bucket_test.specs.Turn.{record_at}
use Rattle.plan.specs.declared.Plan.{Plan}
use Rattle.bucket_test.specs.declared.Threshold.{Threshold}
use Rattle.bucket_test.specs.declared.State.{State}
use Rattle.plan.proofs.PlaceLists.{join_length}
use Rattle.little.specs.Little.{field}
use Rattle.little.proofs.LittleLaws.{to_length, field_left, field_right}
use Rattle.saved_test.specs.Form.{header_size, record_size, mass_size, record_offset, form_size, live_count, masses_to, record_bytes, mass_bytes, saved_masses, saved_size, header, saved_header, record_entries, mass_entries, saved_form}

pub record_length : (t : Threshold) → length (record_bytes t) ≡ record_size
unfolding record_bytes
record_length t = simp (length-append, to_length)

pub mass_length : (count : ℕ) (part : List ℕ) → length (mass_bytes count part) ≡ mass_size * count
unfolding mass_bytes
mass_length count part = join_length _ mass_size count (λ j l. to_length mass_size (get_or part j 0))

-- masses of thresholds one behind the other
pub masses_length : (records : ℕ → Threshold) (parts : ℕ → List ℕ) (i : ℕ)
    → length (join_to i (λ j. mass_bytes (live_count (records j)) (parts j))) ≡ mass_size * masses_to records i
unfolding join_to masses_to
masses_length records parts zero = refl
masses_length records parts (suc i) =
    omega (
      arith,
      length-append (join_to i (λ j. mass_bytes (live_count (records j)) (parts j))) (mass_bytes (live_count (records i)) (parts i)),
      masses_length records parts i,
      mass_length (live_count (records i)) (parts i),
    )

-- a number of entry i, where entries differ in length
pub join_field_at : (g : ℕ → List ℕ) (n : ℕ) (r : List ℕ) (i width o : ℕ) → i < n → o + width ≤ length (g i)
    → field width (length (join_to i g) + o) (join_to n g ++ r) ≡ field width o (g i)
unfolding join_to
join_field_at g zero r i width o l h = absurd (omega arith)
join_field_at g (suc n) r i width o l h =
    rw append_assoc
    (⊎_elim
    (λ q. let f : i ≡ n = omega arith in
    rw f (field_right width o (join_to n g) (g n ++ r) _ refl ∙ field_left width o (g n) r (rw f at h)))
    (λ k. join_field_at g n (g n ++ r) i width o (omega arith) h)
    (eq-or-lt_of_le l))

module _ (p : Plan) (s : State) where
  pub header-length : length (saved_header p s) ≡ header_size
  unfolding header
  header-length = simp (length-append, to_length)

  pub records_length : length (record_entries p s) ≡ record_size * p.count
  unfolding record_entries
  records_length = join_length _ record_size p.count (λ i l. record_length (record_at s i))

  -- the parts before the masses
  pub front_length : length (saved_header p s ++ record_entries p s) ≡ record_offset p.count
  unfolding record_offset
  front_length = omega (arith, length-append (saved_header p s) (record_entries p s), header-length, records_length)

  module _ (words : List ℕ) where
    pub entries_length : length (mass_entries p s words) ≡ mass_size * saved_masses p s
    unfolding mass_entries
    entries_length = masses_length (record_at s) (λ i. part_at i words) p.count

    pub form-length : length (saved_form p s words) ≡ saved_size p s
    unfolding saved_form form_size record_offset
    form-length = simp length-append (omega (arith, header-length, records_length, entries_length))

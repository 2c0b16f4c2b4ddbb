-- Reading a saved test into lent words (saved 3): any bytes give a test or a refusal.
use Rattle.std.specs.Prelude.{Bool, true, ◌&&◌, ◌||◌, List, [], ◌∷◌, ℕ, zero, suc, ◌+◌, ◌*◌, length, replicate, Result, Ok, Err}
use Rattle.std.specs.Int.{w32}
use Rattle.std.proofs.Common.{to_z}
use Rattle.walk.specs.Units.{wide}
use Rattle.walk.specs.declared.Mark.{Mark}
use Rattle.walk.specs.declared.Mark.TheVariants.{Open, Above, AtMost}
use Rattle.walk.specs.declared.Walked.{Walked}
use Rattle.plan.specs.Places.{eq?, within, all_to, over_to, join_to}
use Rattle.refusals.specs.Refusals.{number_of, unless, first_refusal}
use Rattle.refusals.specs.declared.Refusal.{Refusal}
use Rattle.plan.specs.Plan.{count_limit, plan_refusal}
use Rattle.plan.specs.declared.Plan.{Plan}
use Rattle.bucket_test.specs.Words.{words_fit}
use Rattle.bucket_test.specs.Turn.{start_record}
use Rattle.bucket_test.specs.Draw.{state_sound, no_state}
use Rattle.bucket_test.specs.declared.Threshold.{Threshold}
use Rattle.bucket_test.specs.declared.State.{State}
use Rattle.little.specs.Little.{field, column, filled}
use Rattle.saved_test.specs.Form.{header_size, count_field, masses_field, record_offset_field, mass_offset_field, size_field, draws_field, ones_field}
use Rattle.saved_test.specs.Form.{record_size_field, mass_size_field, record_size, step_field, lower_field, upper_field, over_field, under_field, rounded_field, mass_size}
use Rattle.saved_test.specs.Form.{record_offset, form_size, counts_between, live_count, masses_to}

-- a test that was read, or the number of the refusal, 0 for none; a refused reading hands back zeros in every number and open marks
pub record Loaded : Type 0 where
  pub refusal : ℕ
  pub state : State

abbrev pub loaded_as : Result State Refusal → Loaded
loaded_as (Ok s) = record { refusal = 0; state = s }
loaded_as (Err r) = record { refusal = number_of r; state = no_state }

-- ---- what the bytes hold

-- a mark by its code and its step
abbrev pub mark_of : ℕ → ℕ → Mark
mark_of zero step = Open
mark_of (suc zero) step = Above step
mark_of (suc (suc code)) step = AtMost step

module _ (bytes : List ℕ) where
  -- the record at an offset
  unfoldable pub record_from : ℕ → Threshold
  record_from at = record {
    mark = mark_of (field 4 at bytes) (field 4 (at + step_field) bytes);
    walked = record {
      lower = to_z w32 (field 4 (at + lower_field) bytes);
      upper = field 4 (at + upper_field) bytes;
      over = field 8 (at + over_field) bytes;
      under = field 8 (at + under_field) bytes;
      rounded = field 4 (at + rounded_field) bytes;
    };
  }

  abbrev pub record_in : ℕ → Threshold
  record_in i = record_from (record_offset i)

  -- the offset of the masses of the threshold at place i, behind K records and the masses of the thresholds before; its part: those masses,
  -- then zeros
  unfoldable pub mass_offset : ℕ → ℕ → ℕ
  mass_offset count i = record_offset count + mass_size * masses_to record_in i

  unfoldable pub part_in : ℕ → ℕ → List ℕ
  part_in count i = filled (live_count (record_in i)) (column mass_size (mass_offset count i) mass_size bytes) (replicate wide 0)

module _ (p : Plan) (bytes : List ℕ) where
  -- the test, if they hold one; records past K as at a beginning
  unfoldable pub state_in : State
  state_in = record {
    n = field 4 draws_field bytes;
    ones = field 4 ones_field bytes;
    records = over_to p.count (λ i _. record_in bytes i) (replicate count_limit start_record);
  }

  unfoldable pub words_in : List ℕ
  words_in = join_to p.count (part_in bytes p.count)

-- ---- refusal 15

-- one of the three codes, and step 0 where it is open
abbrev pub mark_known : ℕ → ℕ → Bool
mark_known code step = (eq? code 0 && eq? step 0) || (eq? code 1 || eq? code 2)

-- open boundaries count from 1 to 769 masses
abbrev pub count_fits : Mark → Walked → Bool
count_fits Open w = within 1 wide (counts_between w.lower w.upper)
count_fits (Above t) w = true
count_fits (AtMost t) w = true

unfoldable pub record_fits : List ℕ → ℕ → Bool
record_fits bytes i =
    mark_known (field 4 (record_offset i) bytes) (field 4 (record_offset i + step_field) bytes)
    && count_fits (record_in bytes i).mark (record_in bytes i).walked

module _ (p : Plan) (bytes : List ℕ) where
  -- the masses that the saved boundaries ask
  abbrev pub masses_in : ℕ
  masses_in = masses_to (record_in bytes) p.count

  -- counts, offsets, whole length and sizes in the header are those of the plan and of the saved boundaries
  unfoldable pub header_fits : Bool
  header_fits =
      eq? (field 2 count_field bytes) p.count
      && (eq? (field 2 masses_field bytes) masses_in
      && (eq? (field 2 record_offset_field bytes) header_size
      && (eq? (field 2 mass_offset_field bytes) (record_offset p.count)
      && (eq? (field 4 size_field bytes) (form_size p.count masses_in)
      && (eq? (field 2 record_size_field bytes) record_size
      && eq? (field 2 mass_size_field bytes) mass_size)))))

  unfoldable pub form_fits : Bool
  form_fits = eq? (length bytes) (form_size p.count masses_in) && (header_fits && all_to p.count (record_fits bytes))

  -- ---- a reading: plan, 8, 15, 11

  unfoldable pub read_refusal : List ℕ → ℕ
  read_refusal words =
      first_refusal (
      plan_refusal p
      ∷ unless (words_fit p words) 8
      ∷ unless form_fits 15
      ∷ unless (state_sound p (state_in p bytes) (words_in p bytes)) 11
      ∷ []
      )

  -- what is handed back, and the lent words
  abbrev pub loaded_by : ℕ → Loaded
  loaded_by zero = record { refusal = 0; state = state_in p bytes }
  loaded_by (suc r) = record { refusal = suc r; state = no_state }

  abbrev pub words_by : ℕ → List ℕ → List ℕ
  words_by zero words = words_in p bytes
  words_by (suc r) words = words

  unfoldable pub loaded : List ℕ → Loaded
  loaded words = loaded_by (read_refusal words)

  unfoldable pub words_after : List ℕ → List ℕ
  words_after words = words_by (read_refusal words) words

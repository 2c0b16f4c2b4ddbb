-- Which refusal a reading gives (saved 3), and refusal 15 in words. The proofs are in proofs/Refusals.
use Rattle.std.specs.Prelude.{◌≡◌, true, false, List, ◌⊎◌, ◌↔◌, ℕ, ◌+◌, ◌*◌, ◌≤◌, ◌<◌, length}
use Rattle.walk.specs.Units.{wide}
use Rattle.plan.specs.Plan.{plan_refusal}
use Rattle.plan.specs.declared.Plan.{Plan}
use Rattle.bucket_test.specs.Draw.{state_sound}
use Rattle.little.specs.Little.{field}
use Rattle.saved_test.specs.Form.{header_size, count_field, masses_field, record_offset_field, mass_offset_field, size_field, record_size_field, mass_size_field}
use Rattle.saved_test.specs.Form.{record_size, step_field, mass_size, record_offset, form_size, counts_between}
use Rattle.saved_test.specs.Reading.{record_in, masses_in, form_fits, state_in, words_in, read_refusal}

-- ---- a form that fits

module _ (bytes : List ℕ) (i : ℕ) where
  -- the mark's code and step of the threshold at place i, and the counts between its boundaries
  abbrev pub code_in : ℕ
  code_in = field 4 (record_offset i) bytes

  abbrev pub step_in : ℕ
  step_in = field 4 (record_offset i + step_field) bytes

  abbrev pub between_in : ℕ
  between_in = counts_between (record_in bytes i).walked.lower (record_in bytes i).walked.upper

  -- open with step 0, above or at most; where it is open, from 1 to 769 counts
  pub record FittingRecord : Type 0 where
    pub mark_is_known : ((code_in ≡ 0) × (step_in ≡ 0)) ⊎ ((code_in ≡ 1) ⊎ (code_in ≡ 2))
    pub counts_hold : code_in ≡ 0 → (1 ≤ between_in) × (between_in ≤ wide)

-- the length, and each number of the header but n and S, are those of the plan and of the saved boundaries, and each record fits
pub record Fitting (p : Plan) (bytes : List ℕ) : Type 0 where
  pub sized : length bytes ≡ form_size p.count (masses_in p bytes)
  pub count : field 2 count_field bytes ≡ p.count
  pub masses : field 2 masses_field bytes ≡ masses_in p bytes
  pub record_offset_is : field 2 record_offset_field bytes ≡ header_size
  pub mass_offset_is : field 2 mass_offset_field bytes ≡ record_offset p.count
  pub size : field 4 size_field bytes ≡ form_size p.count (masses_in p bytes)
  pub record_size_is : field 2 record_size_field bytes ≡ record_size
  pub mass_size_is : field 2 mass_size_field bytes ≡ mass_size
  pub records : (i : ℕ) → i < p.count → FittingRecord bytes i

abbrev pub FormFitsTheorem : Type 0
FormFitsTheorem = (p : Plan) (bytes : List ℕ) → (form_fits p bytes ≡ true) ↔ Fitting p bytes

-- the layout before, without a number of masses rounded, had records of 32 bytes: none of its forms fits
abbrev pub older_record_size : ℕ
older_record_size = 32

abbrev pub OlderTheorem : Type 0
OlderTheorem = (p : Plan) (bytes : List ℕ) → field 2 record_size_field bytes ≡ older_record_size → form_fits p bytes ≡ false

-- ---- the refusals in their order: plan, 8, 15, 11

pub record ReadRefused (p : Plan) (bytes words : List ℕ) : Type 0 where
  pub by_plan : ¬ (plan_refusal p ≡ 0) → read_refusal p bytes words ≡ plan_refusal p
  pub by_8 : (read_refusal p bytes words ≡ 8) ↔ ((plan_refusal p ≡ 0) × (¬ (length words ≡ wide * p.count)))
  pub by_15 : (read_refusal p bytes words ≡ 15) ↔ ((plan_refusal p ≡ 0) × ((length words ≡ wide * p.count) × (form_fits p bytes ≡ false)))
  pub by_11 : (read_refusal p bytes words ≡ 11)
      ↔ ((plan_refusal p ≡ 0) × ((length words ≡ wide * p.count) × ((form_fits p bytes ≡ true) × (state_sound p (state_in p bytes) (words_in p bytes) ≡ false))))
  pub by_none : (read_refusal p bytes words ≡ 0)
      ↔ ((plan_refusal p ≡ 0) × ((length words ≡ wide * p.count) × ((form_fits p bytes ≡ true) × (state_sound p (state_in p bytes) (words_in p bytes) ≡ true))))

abbrev pub ReadRefusalTheorem : Type 0
ReadRefusalTheorem = (p : Plan) (bytes words : List ℕ) → ReadRefused p bytes words

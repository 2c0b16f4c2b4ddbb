-- What inner contracts ask of the bytes that they work on; no entry's contract cites this file.
use Rattle.std.specs.Prelude.{◌≡◌, Bool, true, List, ℕ, ◌≤◌, ◌<◌, length}
use Rattle.walk.specs.Units.{million, allowance_limit, horizon_limit}
use Rattle.plan.specs.Places.{all_to}
use Rattle.plan.specs.Plan.{count_limit, allowance_at, spending_of}
use Rattle.plan.specs.declared.Plan.{Plan}
use Rattle.walk.specs.declared.Portion.{Portion}
use Rattle.bucket_test.specs.Turn.{record_sound}
use Rattle.saved_test.specs.Form.{form_size, masses_to}
use Rattle.saved_test.specs.Reading.{record_in, record_fits, part_in}

-- so many records, each of which fits, and their masses
pub record RecordsAndMasses (count : ℕ) (bytes : List ℕ) : Type 0 where
  pub records : all_to count (record_fits bytes) ≡ true
  pub sized : length bytes ≡ form_size count (masses_to (record_in bytes) count)

-- what judging them after n draws asks of the plan and of the portion of each allowance to spend by then
pub record Judgeable (p : Plan) (portion : Portion) (n : ℕ) (bytes : List ℕ) : Type 0 where
  pub few : p.count ≤ count_limit
  pub allowed : (i : ℕ) → i < p.count → allowance_at p i ≤ allowance_limit
  pub spendable : n ≤ horizon_limit → (portion.numerator ≤ million) × (1 ≤ portion.denominator)
  pub held : RecordsAndMasses p.count bytes

-- the threshold at place i that the bytes hold passes refusal 11 after n draws with so many ones
abbrev pub part_passes : Plan → List ℕ → ℕ → ℕ → ℕ → Bool
part_passes p bytes n ones i = record_sound (spending_of p i n) n ones (record_in bytes i).mark (record_in bytes i) (part_in bytes p.count i)

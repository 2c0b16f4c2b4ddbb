-- The rules said again for inner contracts, of the thresholds that saved bytes hold, one by one, and of what inner calls hand back; proofs/Taking and
-- proofs/CallLaws show that they are the same. No entry's contract cites this file.
use Rattle.std.specs.Prelude.{◌≡◌, Bool, List, [], ◌∷◌, ◌++◌, ℕ, ◌≤◌, ◌<◌, true, Result, Ok, Err, IfOk}
use Rattle.walk.specs.Numbers.{lt?, only, choose}
use Rattle.walk.specs.Units.{million, horizon_limit}
use Rattle.walk.specs.Strings.{Upper, Lower, is_on}
use Rattle.refusals.specs.Refusals.{number_of, refusal_in, unless, first_refusal}
use Rattle.refusals.specs.declared.Refusal.{Refusal}
use Rattle.plan.specs.Places.{any_to, largest_to, smallest_to, join_to}
use Rattle.plan.specs.Plan.{threshold_at, spending_of, plan_refusal}
use Rattle.plan.specs.declared.Plan.{Plan}
use Rattle.bucket_choice.specs.Choice.{chosen_bucket}
use Rattle.bucket_test.specs.Answers.{first_that_fits}
use Rattle.bucket_test.specs.Turn.{record_at, wide_open, turn_record, turn_part, MayTurn}
use Rattle.bucket_test.specs.Draw.{Outcome, draw_refusal, drawn}
use Rattle.bucket_test.specs.declared.Threshold.{Threshold}
use Rattle.bucket_test.specs.declared.Answer.{Answer}
use Rattle.saved_test.specs.Form.{form_size, live_count, masses_to, record_bytes, mass_bytes}
use Rattle.saved_test.specs.Reading.{record_in, part_in, state_in, words_in, form_fits}
use Rattle.saved_test.specs.Inner.{RecordsAndMasses}
use Rattle.calls.specs.Calls.{answer_number, Called, room_refusal, called_by}
use Rattle.calls.specs.declared.Standing.{Standing}

-- ---- what is handed back

-- the number of an answer or of a refusal
abbrev pub number_in : Result Answer Refusal → ℕ
number_in (Ok a) = answer_number a
number_in (Err r) = number_of r

-- an inner call hands back the number of the call c, at most 140, and leaves its bytes
pub record Hands (c : Called) (r : Result Answer Refusal) (after : List ℕ) : Type 0 where
  pub number : number_in r ≡ c.number
  pub small : number_in r ≤ 140
  pub bytes : after ≡ c.bytes

-- ---- the thresholds that bytes hold

-- what the answer rule asks of so many records: the interval, and whether an open one is wide
pub record Seen (p : Plan) (count : ℕ) (records : ℕ → Threshold) (s : Standing) : Type 0 where
  pub low : s.interval.low ≡ largest_to count (λ i. only (is_on Upper (records i).mark) (threshold_at p i)) 0
  pub high : s.interval.high ≡ smallest_to count (λ i. choose (is_on Lower (records i).mark) (threshold_at p i) million) million
  pub wide : s.wide ≡ any_to count (λ i. wide_open (records i))

-- the first answer that fits such records
abbrev pub answer_by_standing : Plan → Standing → Bool → Answer
answer_by_standing p s spent =
    let j = chosen_bucket p s.interval.low s.interval.high in first_that_fits (lt? s.interval.high s.interval.low) (lt? j p.buckets) j s.wide spent

-- their turns at draw n, with so many ones
module _ (p : Plan) (n ones : ℕ) (bytes : List ℕ) where
  abbrev pub new_record : ℕ → Threshold
  new_record i =
      turn_record (threshold_at p i) (spending_of p i n) n ones (record_in bytes i).mark (record_in bytes i) (part_in bytes p.count i)

  abbrev pub new_part : ℕ → List ℕ
  new_part i =
      turn_part (threshold_at p i) (spending_of p i n) n ones (record_in bytes i).mark (record_in bytes i) (part_in bytes p.count i)

  abbrev pub new_record_bytes : ℕ → List ℕ
  new_record_bytes i = record_bytes (new_record i)

  abbrev pub new_mass_bytes : ℕ → List ℕ
  new_mass_bytes i = mass_bytes (live_count (new_record i)) (new_part i)

  -- the form after them: its length, and what stands behind its header
  abbrev pub new_size : ℕ
  new_size = form_size p.count (masses_to new_record p.count)

  abbrev pub new_entries : List ℕ
  new_entries = join_to p.count new_record_bytes ++ join_to p.count new_mass_bytes

  -- what they ask
  pub record Turns : Type 0 where
    pub judged : plan_refusal p ≡ 0
    pub in_time : n ≤ horizon_limit
    pub form : RecordsAndMasses p.count bytes
    pub may : (i : ℕ) → i < p.count
        → MayTurn (threshold_at p i) (spending_of p i n) (record_in bytes i).mark (record_in bytes i) (part_in bytes p.count i)

-- a part of so many words holds the masses of any one of them and one more
abbrev pub PartHoldsOneMore : ℕ → List ℕ → ℕ → Type 0
PartHoldsOneMore count bytes room = (i : ℕ) → i < count → live_count (record_in bytes i) < room

-- ---- a draw to the test that bytes hold

module _ (p : Plan) (bytes : List ℕ) (d : ℕ) where
  -- what refuses it before 12: 15, then 9, 10, 11; plan and 8 never apply here
  abbrev pub refusal_on : ℕ
  refusal_on = first_refusal (unless (form_fits p bytes) 15 ∷ draw_refusal p (state_in p bytes) (words_in p bytes) d ∷ [])

  -- only 12 can
  pub record Ready : Type 0 where
    pub form : form_fits p bytes ≡ true
    pub unrefused : draw_refusal p (state_in p bytes) (words_in p bytes) d ≡ 0

  abbrev pub outcome : Outcome
  outcome = drawn p (state_in p bytes) (words_in p bytes) d

  -- what becomes of it then: refused by 12, the lent bytes as they were; or the new form in them, and how its records stand
  pub record Took (lent : List ℕ) (r : Result Standing Refusal) (after : List ℕ) : Type 0 where
    pub refusal_is : refusal_in r ≡ room_refusal p outcome lent
    pub written : after ≡ (called_by (refusal_in r) p outcome lent).bytes
    pub standing : IfOk r (λ s. Seen p p.count (record_at outcome.state) s)

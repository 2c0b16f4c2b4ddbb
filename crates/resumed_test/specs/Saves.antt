-- A test carried from a beginning over draws and saves, and demand 3 of it (saved 5). Lists are latest first, as in bucket_test/specs/Carried.
use Rattle.std.specs.Prelude.{◌≡◌, List, [], ◌∷◌, ◌⊎◌, ℕ, zero, suc, ◌*◌, ◌≤◌, ◌<◌, length, take, replicate}
use Rattle.walk.specs.Units.{wide}
use Rattle.walk.specs.Walk.{Walk, lower, walk}
use Rattle.walk.specs.Strings.{Draws, ones, last_step}
use Rattle.walk.specs.declared.Mark.TheVariants.{Open}
use Rattle.walk.specs.declared.Walked.{Walked}
use Rattle.refusals.specs.Refusals.{first_refusal}
use Rattle.plan.specs.Plan.{threshold_at, spending_of, Accepted}
use Rattle.bucket_test.specs.Words.{part_at, Stands}
use Rattle.bucket_test.specs.Turn.{record_at}
use Rattle.bucket_test.specs.Answers.{answer_of, refusal_of}
use Rattle.bucket_test.specs.Draw.{Outcome, begun, drawn}
use Rattle.bucket_test.specs.Carried.{carried, has_ended, taken}
use Rattle.bucket_test.specs.Demand3.{Marks, Excess, AnswersDraw, Demand3}
use Rattle.plan.specs.declared.Plan.{Plan}
use Rattle.bucket_test.specs.declared.State.{State}
use Rattle.bucket_test.specs.declared.Answer.{Answer}
use Rattle.bucket_test.specs.declared.Answer.TheVariants.{Open as OpenAnswer, Refused}
use Rattle.saved_test.specs.Form.{form_limit, mark_step}
use Rattle.saved_test.specs.Alike.{Alike}
use Rattle.saved_test.specs.Writing.{saved, bytes_after}
use Rattle.saved_test.specs.Reading.{Loaded, loaded, words_after}

-- a draw of any value, or a save: the test is written into these lent bytes, its state and words are lost, and it is read into these lent words
pub data Move : Type 0 where
  Draw : ℕ → Move
  Save : List ℕ → List ℕ → Move

-- the draws alone
unfoldable pub draws_of : List Move → List ℕ
draws_of [] = []
draws_of (Draw d ∷ ms) = d ∷ draws_of ms
draws_of (Save bytes lent ∷ ms) = draws_of ms

-- each save lends room for the longest form, and the right number of words
unfoldable pub Lends : Plan → List Move → Type 0
Lends p [] = Unit
Lends p (Draw d ∷ ms) = Lends p ms
Lends p (Save bytes lent ∷ ms) = (form_limit ≤ length bytes) × (length lent ≡ wide * p.count) × Lends p ms

-- a save, by what the entries hand back
module _ (p : Plan) (s : State) (words bytes lent : List ℕ) where
  -- the bytes that are kept, as many as the writing says; what is read from them
  abbrev pub kept_bytes : List ℕ
  kept_bytes = take (saved p s words bytes).size (bytes_after p s words bytes)

  abbrev pub reading : Loaded
  reading = loaded p kept_bytes lent

  -- the first refusal, of the writing or the reading. After a refused writing, as by 12, no byte is kept, so the reading is refused too, and the
  -- test is lost
  unfoldable pub reload_refusal : ℕ
  reload_refusal = first_refusal ((saved p s words bytes).refusal ∷ reading.refusal ∷ [])

  abbrev pub reload_answer : ℕ → Answer
  reload_answer zero = answer_of p reading.state
  reload_answer (suc r) = Refused (suc r)

  unfoldable pub reloaded : Outcome
  reloaded = record { answer = reload_answer reload_refusal; state = reading.state; words = words_after p kept_bytes lent }

unfoldable pub moved : Plan → List ℕ → List Move → Outcome
moved p words [] = begun p words
moved p words (Draw d ∷ ms) = drawn p (moved p words ms).state (moved p words ms).words d
moved p words (Save bytes lent ∷ ms) = reloaded p (moved p words ms).state (moved p words ms).words bytes lent

-- ---- demand 3 over power cuts

module _ (p : Plan) (words : List ℕ) where
  -- each draw is answered as demand 3 says, and as if nothing had been saved; no save is refused
  unfoldable pub AnsweredOver : List Move → Type 0
  AnsweredOver [] = (moved p words []).answer ≡ OpenAnswer
  AnsweredOver (Draw d ∷ ms) =
      AnswersDraw p d (has_ended p words (draws_of ms)) (moved p words (Draw d ∷ ms))
      × ((moved p words (Draw d ∷ ms)).answer ≡ (carried p words (d ∷ draws_of ms)).answer)
      × AnsweredOver ms
  AnsweredOver (Save bytes lent ∷ ms) = (reload_refusal p (moved p words ms).state (moved p words ms).words bytes lent ≡ 0) × AnsweredOver ms

  -- there was a save since step t: one before which at least t draws were taken
  unfoldable pub SavedSince : List Move → ℕ → Type 0
  SavedSince [] t = ⊥
  SavedSince (Draw d ∷ ms) t = SavedSince ms t
  SavedSince (Save bytes lent ∷ ms) t = (t ≤ length (taken p words (draws_of ms))) ⊎ SavedSince ms t

  -- the record r holds the boundaries, spent masses and number of masses rounded of the walk w
  pub record Recorded (w : Walk) (r : Walked) : Type 0 where
    pub lower_is : r.lower ≡ lower w
    pub upper_is : r.upper ≡ w.upper
    pub over_is : r.over ≡ w.over
    pub under_is : r.under ≡ w.under
    pub rounded_is : r.rounded ≡ w.rounded

  module _ (ms : List Move) where
    -- the draws taken, which are those of the draws alone; the state and the parts at hand; the walk of a threshold at the last step it walked
    abbrev pub draws_taken : Draws
    draws_taken = taken p words (draws_of ms)

    abbrev pub state_now : State
    state_now = (moved p words ms).state

    abbrev pub part_now : ℕ → List ℕ
    part_now i = part_at i (moved p words ms).words

    abbrev pub last_walk : ℕ → Walk
    last_walk i = walk (threshold_at p i) (spending_of p i) (last_step (record_at state_now i).mark (length draws_taken))

    pub record Demand3Saved : Type 0 where
      -- every claim of demand 3 with the draws alone: refusals, draws taken, answers, facts, chances
      pub alone : Demand3 p words (draws_of ms)
      -- and of the test at hand
      pub answered : AnsweredOver ms
      pub refused_stays : (d : ℕ) → ¬ (refusal_of (moved p words (Draw d ∷ ms)).answer ≡ 0)
          → ((moved p words (Draw d ∷ ms)).state ≡ state_now) × ((moved p words (Draw d ∷ ms)).words ≡ (moved p words ms).words)
      pub n_is : state_now.n ≡ length draws_taken
      pub ones_is : state_now.ones ≡ ones draws_taken
      pub marks : (i : ℕ) → i < p.count → Marks (threshold_at p i) (spending_of p i) draws_taken (record_at state_now i).mark
      pub recorded : (i : ℕ) → i < p.count → Recorded (last_walk i) (record_at state_now i).walked
      pub excess : (i : ℕ) → i < p.count
          → Excess (threshold_at p i) (spending_of p i) (last_step (record_at state_now i).mark (length draws_taken)) (length draws_taken)
          (record_at state_now i).walked
      -- all 769 words of an open threshold are those of its last step; of a settled one so or, after a save since then, zeros
      pub stands : (i : ℕ) → i < p.count
          → Stands (last_walk i) (record_at state_now i).walked (part_now i)
          ⊎ ((¬ ((record_at state_now i).mark ≡ Open)) × SavedSince ms (mark_step (record_at state_now i).mark) × (part_now i ≡ replicate wide 0))
      -- the test that was never saved is alike
      pub same_test : Alike p (carried p words (draws_of ms)).state (carried p words (draws_of ms)).words state_now (moved p words ms).words

-- of every accepted plan, all lent words of the right number, and every list of draws and of saves that lend enough
abbrev pub Demand3SavedTheorem : Type 0
Demand3SavedTheorem = (p : Plan) → Accepted p → (words : List ℕ) → length words ≡ wide * p.count
    → (ms : List Move) → Lends p ms → Demand3Saved p words ms

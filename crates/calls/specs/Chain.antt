-- The chain of calls (saved 7). Lists are latest first, as in bucket_test/specs/Carried: in `c ∷ cs` the call c follows cs.
use Rattle.std.specs.Prelude.{◌≡◌, Bool, true, false, ◌↔◌, ◌⊎◌, List, [], ◌∷◌, ◌++◌, ℕ, ◌≤◌, ◌<◌, length, take, drop}
use Rattle.walk.specs.Numbers.{le?}
use Rattle.plan.specs.Places.{eq?}
use Rattle.bucket_test.specs.Answers.{refusal_of}
use Rattle.bucket_test.specs.Draw.{Outcome, start_state}
use Rattle.bucket_test.specs.Carried.{carried}
use Rattle.bucket_test.specs.Demand3.{Demand3}
use Rattle.plan.specs.declared.Plan.{Plan}
use Rattle.little.specs.Little.{field}
use Rattle.stored_plan.specs.Reading.{decoded}
use Rattle.saved_test.specs.Form.{size_field, saved_size, saved_form}
use Rattle.calls.specs.Calls.{answer_number, Called, own_words, called_begin, called_draw}

-- a draw of any value, and the bytes lent for the new form, any number of them
pub record Call : Type 0 where
  pub draw : ℕ
  pub lent : List ℕ

-- numbers from 100 on are answers
abbrev pub is_answer : ℕ → Bool
is_answer number = le? 100 number

-- what the host keeps for the next call: after an answer the new form, as long as its header says; after a refusal what it had
abbrev pub kept_by : Bool → List ℕ → List ℕ → List ℕ
kept_by true had bytes = take (field 4 size_field bytes) bytes
kept_by false had bytes = had

abbrev pub kept : List ℕ → Called → List ℕ
kept had c = kept_by (is_answer c.number) had c.bytes

-- a draw is left out where 12 refused it
abbrev pub unless12 : Bool → ℕ → List ℕ → List ℕ
unless12 true d ds = ds
unless12 false d ds = d ∷ ds

module _ (planBytes lent : List ℕ) where
  abbrev pub plan_of : Plan
  plan_of = (decoded planBytes).plan

  -- the saved bytes after a beginning and these calls, each handed those of the call before; what the last call c returned
  unfoldable pub saved_after : List Call → List ℕ
  saved_after [] = kept [] (called_begin planBytes lent)
  saved_after (c ∷ cs) = kept (saved_after cs) (called_draw planBytes (saved_after cs) c.draw c.lent)

  abbrev pub last_called : Call → List Call → Called
  last_called c cs = called_draw planBytes (saved_after cs) c.draw c.lent

  -- the draws that 12 did not refuse, and the test carried over them
  unfoldable pub draws_kept : List Call → List ℕ
  draws_kept [] = []
  draws_kept (c ∷ cs) = unless12 (eq? (last_called c cs).number 12) c.draw (draws_kept cs)

  abbrev pub test_after : List ℕ → Outcome
  test_after ds = carried plan_of (own_words plan_of) ds

  abbrev pub form_of : Outcome → List ℕ
  form_of o = saved_form plan_of o.state o.words

  -- the call c after cs, where o is the carried test after its draw: 12 exactly when neither 9 nor 10 refuses the draw and the new form exceeds
  -- the lent bytes; else the number of the carried test's answer, or of its refusal, 9 or 10; no other refusal
  pub record Returns (c : Call) (cs : List Call) (o : Outcome) : Type 0 where
    pub by_12 : ((last_called c cs).number ≡ 12) ↔ ((refusal_of o.answer ≡ 0) × (length c.lent < saved_size plan_of o.state))
    pub else_answer : ¬ ((last_called c cs).number ≡ 12) → (last_called c cs).number ≡ answer_number o.answer
    pub by_no_other : (100 ≤ (last_called c cs).number)
        ⊎ (((last_called c cs).number ≡ 9) ⊎ (((last_called c cs).number ≡ 10) ⊎ ((last_called c cs).number ≡ 12)))
    -- the lent bytes: the form and the rest as it was; after a refusal all as they were
    pub written : 100 ≤ (last_called c cs).number → (last_called c cs).bytes ≡ form_of o ++ drop (length (form_of o)) c.lent
    pub untouched : (last_called c cs).number < 100 → (last_called c cs).bytes ≡ c.lent

  -- the beginning is answered open, its form in the lent bytes; and each call as above
  unfoldable pub Returned : List Call → Type 0
  Returned [] =
      ((called_begin planBytes lent).number ≡ 100)
      × ((called_begin planBytes lent).bytes ≡ form_of (test_after []) ++ drop (length (form_of (test_after []))) lent)
  Returned (c ∷ cs) = Returns c cs (test_after (c.draw ∷ draws_kept cs)) × Returned cs

  pub record Follows (cs : List Call) : Type 0 where
    pub returned : Returned cs
    -- the saved bytes are the form of the carried test
    pub saved_is : saved_after cs ≡ form_of (test_after (draws_kept cs))
    -- demand 3 holds of that test
    pub demand : Demand3 plan_of (own_words plan_of) (draws_kept cs)

-- of plan bytes that are read and lent bytes with room for the form of a beginning, which is then accepted, over every list of calls
abbrev pub ChainTheorem : Type 0
ChainTheorem = (planBytes lent : List ℕ) → (decoded planBytes).refusal ≡ 0 → saved_size (plan_of planBytes lent) start_state ≤ length lent
    → (cs : List Call) → Follows planBytes lent cs

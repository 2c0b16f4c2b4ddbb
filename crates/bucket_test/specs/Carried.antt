-- A test carried from a beginning over a list of draws (rules 6.3). Lists are latest first, as strings are: in `d ∷ ds` the
-- draw d follows ds.
use Rattle.std.specs.Prelude.{Bool, false, ◌||◌, List, [], ◌∷◌, ℕ, zero, suc}
use Rattle.walk.specs.Numbers.{le?}
use Rattle.walk.specs.Strings.{Draws}
use Rattle.bucket_choice.specs.Choice.{Choice, chosen_bucket}
use Rattle.bucket_test.specs.Answers.{is_ending, refusal_of}
use Rattle.bucket_test.specs.Draw.{Outcome, begun_over, drawn_over}
use Rattle.plan.specs.declared.Plan.{Plan}

-- what the last call handed back, after the draws ds from a beginning on these words: with any choice of buckets; then with the test's
unfoldable pub carried_over : Choice → Plan → List ℕ → List ℕ → Outcome
carried_over choice p words [] = begun_over choice p words
carried_over choice p words (d ∷ ds) = drawn_over choice p (carried_over choice p words ds).state (carried_over choice p words ds).words d

abbrev pub carried : Plan → List ℕ → List ℕ → Outcome
carried = carried_over chosen_bucket

-- some draw of the list had an ending answer
unfoldable pub has_ended : Plan → List ℕ → List ℕ → Bool
has_ended p words [] = false
has_ended p words (d ∷ ds) = is_ending (carried p words (d ∷ ds)).answer || has_ended p words ds

-- the draws taken: those that are not refused, in order
abbrev pub taken_by : ℕ → ℕ → Draws → Draws
taken_by zero d s = le? 1 d ∷ s
taken_by (suc r) d s = s

unfoldable pub taken : Plan → List ℕ → List ℕ → Draws
taken p words [] = []
taken p words (d ∷ ds) = taken_by (refusal_of (carried p words (d ∷ ds)).answer) d (taken p words ds)

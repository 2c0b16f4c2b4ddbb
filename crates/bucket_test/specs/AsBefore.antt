-- Which bucket is named changes nothing else (rules 7.2): what is claimed of the answer rule over two choices of buckets. Definitions only.
use Rattle.std.specs.Prelude.{◌≡◌, List, ℕ}
use Rattle.bucket_choice.specs.Choice.{Choice, chosen_bucket, first_bucket}
use Rattle.bucket_choice.specs.Chosen.{NamesContaining}
use Rattle.bucket_test.specs.Answers.{answer_over, is_ending, refusal_of, word_of}
use Rattle.bucket_test.specs.Draw.{Outcome, drawn_over, report_over}
use Rattle.bucket_test.specs.Carried.{carried_over}
use Rattle.bucket_test.specs.declared.State.{State}
use Rattle.plan.specs.declared.Plan.{Plan}
use Rattle.bucket_test.specs.declared.Report.{Report}
use Rattle.bucket_test.specs.declared.Answer.{Answer}

-- two answers are the same but for the bucket's number; so are two reports, and two outcomes of a call
pub record SameAnswer (a b : Answer) : Type 0 where
  pub number_same : refusal_of a ≡ refusal_of b
  pub word_same : word_of a ≡ word_of b
  pub ending_same : is_ending a ≡ is_ending b

pub record SameReport (a b : Report) : Type 0 where
  pub answer_same : SameAnswer a.answer b.answer
  pub low_same : a.low ≡ b.low
  pub high_same : a.high ≡ b.high

pub record SameOutcome (a b : Outcome) : Type 0 where
  pub answer_same : SameAnswer a.answer b.answer
  pub state_same : a.state ≡ b.state
  pub words_same : a.words ≡ b.words

-- with the one choice and with the other: the answers to every state, the reports on it, a draw to it with any words, and what every list of
-- draws comes to, from a beginning on any words. So a test is decided at the same draw with both.
pub record SameButBucket (p : Plan) (one other : Choice) : Type 0 where
  pub answers : (s : State) → SameAnswer (answer_over one p s) (answer_over other p s)
  pub reports : (s : State) → SameReport (report_over one p s) (report_over other p s)
  pub draws : (s : State) (words : List ℕ) (d : ℕ) → SameOutcome (drawn_over one p s words d) (drawn_over other p s words d)
  pub carries : (words ds : List ℕ) → SameOutcome (carried_over one p words ds) (carried_over other p words ds)

-- of every plan, and any two choices that name a bucket that contains the interval exactly where there is one
abbrev pub AnyChoiceTheorem : Type 0
AnyChoiceTheorem = (p : Plan) (one other : Choice) → NamesContaining one p → NamesContaining other p → SameButBucket p one other

-- .. so of the choice and of the one before it
abbrev pub AsBeforeTheorem : Type 0
AsBeforeTheorem = (p : Plan) → SameButBucket p chosen_bucket first_bucket

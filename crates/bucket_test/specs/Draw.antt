-- A beginning and a draw, of every plan, state, list of words and draw (rules 6.1, 6.2, 7.3, 8.2, 8.3).
use Rattle.std.specs.Prelude.{Bool, not, ◌&&◌, List, [], ◌∷◌, ℕ, zero, suc, ◌+◌, replicate}
use Rattle.walk.specs.Numbers.{le?}
use Rattle.walk.specs.Record.{start_part}
use Rattle.plan.specs.Places.{all_to, over_to, join_to}
use Rattle.refusals.specs.Refusals.{unless, first_refusal}
use Rattle.plan.specs.Plan.{count_limit, plan_refusal}
use Rattle.bucket_choice.specs.Choice.{Choice, chosen_bucket}
use Rattle.bucket_test.specs.Words.{words_fit}
use Rattle.bucket_test.specs.Turn.{start_record, no_record, record_at, record_turn, part_turn, record_sound_at}
use Rattle.bucket_test.specs.Answers.{low_of, high_of, answer_over, is_ending}
use Rattle.bucket_test.specs.declared.Threshold.{Threshold}
use Rattle.bucket_test.specs.declared.State.{State}
use Rattle.plan.specs.declared.Plan.{Plan}
use Rattle.bucket_test.specs.declared.Drawn.{Drawn}
use Rattle.bucket_test.specs.declared.Report.{Report}
use Rattle.bucket_test.specs.declared.Answer.{Answer}
use Rattle.bucket_test.specs.declared.Answer.TheVariants.{Refused}

-- what a call hands back: the answer, the state, and the lent words
pub record Outcome : Type 0 where
  pub answer : Answer
  pub state : State
  pub words : List ℕ

abbrev pub drawn_of : Outcome → Drawn
drawn_of o = record { answer = o.answer; state = o.state }

abbrev pub outcome_of : Drawn → List ℕ → Outcome
outcome_of d words = record { answer = d.answer; state = d.state; words = words }

-- ---- a beginning: plan, 8

-- before any draw, ten of one record
abbrev pub ten_of : Threshold → State
ten_of t = record { n = 0; ones = 0; records = replicate count_limit t }

-- ten open records with step 0's boundaries, and each part the words of step 0
unfoldable pub start_state : State
start_state = ten_of start_record

unfoldable pub start_words : Plan → List ℕ
start_words p = join_to p.count (λ i. start_part)

-- no state: zeros in every number, and open marks
unfoldable pub no_state : State
no_state = ten_of no_record

unfoldable pub begin_refusal : Plan → List ℕ → ℕ
begin_refusal p words = first_refusal (plan_refusal p ∷ unless (words_fit p words) 8 ∷ [])

-- with any choice of buckets; then with the test's
module _ (choice : Choice) where
  abbrev pub begun_by : ℕ → Plan → List ℕ → Outcome
  begun_by zero p words = record { answer = answer_over choice p start_state; state = start_state; words = start_words p }
  begun_by (suc r) p words = record { answer = Refused (suc r); state = no_state; words = words }

  unfoldable pub begun_over : Plan → List ℕ → Outcome
  begun_over p words = begun_by (begin_refusal p words) p words

abbrev pub begun : Plan → List ℕ → Outcome
begun = begun_over chosen_bucket

-- ---- a draw: plan, 8, 9, 10, 11

-- refusal 11 (rules 8.4), judged on the first K records only
unfoldable pub state_sound : Plan → State → List ℕ → Bool
state_sound p s words =
    le? s.n p.horizon
    && (le? s.ones s.n
    && all_to p.count (λ i. record_sound_at p words s.n s.ones i (record_at s i)))

-- n and S rise first; then each of the first K thresholds has its turn, and the records past K stay
unfoldable pub next_state : Plan → State → List ℕ → ℕ → State
next_state p s words d = record {
  n = suc s.n;
  ones = s.ones + d;
  records = over_to p.count (record_turn p words (suc s.n) (s.ones + d)) s.records;
}

unfoldable pub next_words : Plan → State → List ℕ → ℕ → List ℕ
next_words p s words d = join_to p.count (λ i. part_turn p words (suc s.n) (s.ones + d) i (record_at s i))

-- with any choice of buckets; then with the test's
module _ (choice : Choice) where
  unfoldable pub draw_refusal_over : Plan → State → List ℕ → ℕ → ℕ
  draw_refusal_over p s words d =
      first_refusal (
      plan_refusal p
      ∷ unless (words_fit p words) 8
      ∷ unless (le? d 1) 9
      ∷ unless (not (is_ending (answer_over choice p s))) 10
      ∷ unless (state_sound p s words) 11
      ∷ []
      )

  abbrev pub drawn_by : ℕ → Plan → State → List ℕ → ℕ → Outcome
  drawn_by zero p s words d = record { answer = answer_over choice p (next_state p s words d); state = next_state p s words d; words = next_words p s words d }
  drawn_by (suc r) p s words d = record { answer = Refused (suc r); state = s; words = words }

  unfoldable pub drawn_over : Plan → State → List ℕ → ℕ → Outcome
  drawn_over p s words d = drawn_by (draw_refusal_over p s words d) p s words d

abbrev pub draw_refusal : Plan → State → List ℕ → ℕ → ℕ
draw_refusal = draw_refusal_over chosen_bucket

abbrev pub drawn : Plan → State → List ℕ → ℕ → Outcome
drawn = drawn_over chosen_bucket

-- ---- the answer to a state as it stands, with its interval

-- with any choice of buckets; then with the test's
module _ (choice : Choice) where
  abbrev pub report_by : ℕ → Plan → State → Report
  report_by zero p s = record { answer = answer_over choice p s; low = low_of p s; high = high_of p s }
  report_by (suc r) p s = record { answer = Refused (suc r); low = 0; high = 0 }

  unfoldable pub report_over : Plan → State → Report
  report_over p s = report_by (plan_refusal p) p s

abbrev pub report : Plan → State → Report
report = report_over chosen_bucket

-- Interval and answer of a state under a plan (rules 7); which bucket is named is in bucket_choice/specs/Choice. The state may be any; thresholds of
-- an accepted plan are below 1,000,000.
use Rattle.std.specs.Prelude.{Bool, true, false, List, [], ◌∷◌, ℕ, suc}
use Rattle.walk.specs.Numbers.{lt?, only, choose}
use Rattle.walk.specs.Units.{million}
use Rattle.walk.specs.Strings.{Upper, Lower, is_on}
use Rattle.plan.specs.Places.{eq?, any_to, largest_to, smallest_to}
use Rattle.plan.specs.Plan.{threshold_at}
use Rattle.bucket_choice.specs.Choice.{Choice, chosen_bucket}
use Rattle.bucket_test.specs.Turn.{record_at, wide_open}
use Rattle.bucket_test.specs.declared.State.{State}
use Rattle.plan.specs.declared.Plan.{Plan}
use Rattle.bucket_test.specs.declared.Report.{Report}
use Rattle.bucket_test.specs.declared.Answer.{Answer}
use Rattle.bucket_test.specs.declared.Answer.TheVariants.{Open, Decided, Crossed, Wide, Spent, Refused}

module _ (p : Plan) (s : State) where
  -- low: the largest threshold marked above, else 0; high: the smallest marked at most, else 1,000,000
  unfoldable pub low_of : ℕ
  low_of = largest_to p.count (λ i. only (is_on Upper (record_at s i).mark) (threshold_at p i)) 0

  unfoldable pub high_of : ℕ
  high_of = smallest_to p.count (λ i. choose (is_on Lower (record_at s i).mark) (threshold_at p i) million) million

  -- an open threshold is wide
  unfoldable pub any_wide : Bool
  any_wide = any_to p.count (λ i. wide_open (record_at s i))

-- the first that fits of: crossed, decided with the bucket at place j, wide, spent, open
abbrev pub first_that_fits : Bool → Bool → ℕ → Bool → Bool → Answer
first_that_fits true decided j wide spent = Crossed
first_that_fits false true j wide spent = Decided (suc j)
first_that_fits false false j true spent = Wide
first_that_fits false false j false true = Spent
first_that_fits false false j false false = Open

-- the answer where the interval is from low to high and the bucket named for it is the one at place j
unfoldable pub answer_by : Plan → State → ℕ → ℕ → ℕ → Answer
answer_by p s low high j = first_that_fits (lt? high low) (lt? j p.buckets) j (any_wide p s) (eq? s.n p.horizon)

-- the answer rule with any choice of buckets; then with the test's
unfoldable pub answer_over : Choice → Plan → State → Answer
answer_over choice p s = answer_by p s (low_of p s) (high_of p s) (choice p (low_of p s) (high_of p s))

abbrev pub answer_of : Plan → State → Answer
answer_of = answer_over chosen_bucket

-- ---- what each case of an answer says in the rules

-- the four that end a test
abbrev pub is_ending : Answer → Bool
is_ending Open = false
is_ending (Decided b) = true
is_ending Crossed = true
is_ending Wide = true
is_ending Spent = true
is_ending (Refused r) = false

-- the number of the refusal, 0 where there is none; the number of the bucket, 0 unless decided
abbrev pub refusal_of : Answer → ℕ
refusal_of (Refused r) = r
refusal_of Open = 0
refusal_of (Decided b) = 0
refusal_of Crossed = 0
refusal_of Wide = 0
refusal_of Spent = 0

abbrev pub bucket_of : Answer → ℕ
bucket_of (Decided b) = b
bucket_of Open = 0
bucket_of Crossed = 0
bucket_of Wide = 0
bucket_of Spent = 0
bucket_of (Refused r) = 0

-- the word, in ASCII: open, decided, crossed, wide, spent, refused
abbrev pub word_of : Answer → List ℕ
word_of Open = 111 ∷ 112 ∷ 101 ∷ 110 ∷ []
word_of (Decided b) = 100 ∷ 101 ∷ 99 ∷ 105 ∷ 100 ∷ 101 ∷ 100 ∷ []
word_of Crossed = 99 ∷ 114 ∷ 111 ∷ 115 ∷ 115 ∷ 101 ∷ 100 ∷ []
word_of Wide = 119 ∷ 105 ∷ 100 ∷ 101 ∷ []
word_of Spent = 115 ∷ 112 ∷ 101 ∷ 110 ∷ 116 ∷ []
word_of (Refused r) = 114 ∷ 101 ∷ 102 ∷ 117 ∷ 115 ∷ 101 ∷ 100 ∷ []

-- the rules' number and values of an answer to the state s, with its interval: the refusal's number, 0 for none; the word; the bucket's
-- number; n, S, low, high
pub record Values : Type 0 where
  pub number : ℕ
  pub word : List ℕ
  pub bucket : ℕ
  pub n : ℕ
  pub ones : ℕ
  pub low : ℕ
  pub high : ℕ

abbrev pub values_of : State → Report → Values
values_of s r = record {
  number = refusal_of r.answer;
  word = word_of r.answer;
  bucket = bucket_of r.answer;
  n = s.n;
  ones = s.ones;
  low = r.low;
  high = r.high;
}

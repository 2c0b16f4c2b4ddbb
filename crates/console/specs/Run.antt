-- A run of draws (rules 6.4): one after the other from an outcome on, each while the answer is `open`. A run is the program's; it comes to what a
-- test comes to that is carried over those of the draws that were handed to it.
use Rattle.std.specs.Prelude.{◌≡◌, Bool, true, false, List, [], ◌∷◌, ℕ, suc, ◌≤◌, ◌<◌, length, take, get_or}
use Rattle.walk.specs.Numbers.{le?}
use Rattle.plan.specs.SameCounted.{SameCounted}
use Rattle.plan.specs.declared.Plan.{Plan}
use Rattle.bucket_test.specs.Answers.{refusal_of}
use Rattle.bucket_test.specs.Draw.{Outcome, drawn}
use Rattle.bucket_test.specs.Carried.{carried, taken}
use Rattle.bucket_test.specs.declared.Answer.{Answer}
use Rattle.bucket_test.specs.declared.Answer.TheVariants.{Open, Decided, Crossed, Wide, Spent, Refused}

-- the answer is `open`: neither ended nor refused
abbrev pub answer_open : Answer → Bool
answer_open Open = true
answer_open (Decided b) = false
answer_open Crossed = false
answer_open Wide = false
answer_open Spent = false
answer_open (Refused r) = false

abbrev pub while_open : Bool → Outcome → Outcome → Outcome
while_open true o next = next
while_open false o next = o

unfoldable pub ran : Plan → Outcome → List ℕ → Outcome
ran p o [] = o
ran p o (d ∷ ds) = while_open (answer_open o.answer) o (ran p (drawn p o.state o.words d) ds)

-- ds, followed by the draws es in the order of time; lists that are carried over are latest first
unfoldable pub followed_by : List ℕ → List ℕ → List ℕ
followed_by ds [] = ds
followed_by ds (e ∷ es) = followed_by (e ∷ ds) es

-- The outcome o of a run of draws es, put to the test carried over ds: so many of them were handed to it, each after an `open` answer, all
-- of them unless an answer was not, and o is what the test then handed back.
pub record RunsTo (p : Plan) (words ds es : List ℕ) (o : Outcome) : Type 0 where
  pub handed : ℕ
  pub few : handed ≤ length es
  pub open_before : (k : ℕ) → k < handed → (carried p words (followed_by ds (take k es))).answer ≡ Open
  pub stops : handed < length es → ¬ (o.answer ≡ Open)
  pub outcome : o ≡ carried p words (followed_by ds (take handed es))
  -- each draw that was handed over was taken, but for the last where it was refused; that one changed nothing
  pub taken_each : (k : ℕ) → k < handed → (suc k ≡ handed → refusal_of o.answer ≡ 0)
      → taken p words (followed_by ds (take (suc k) es)) ≡ le? 1 (get_or es k 0) ∷ taken p words (followed_by ds (take k es))
  pub refused_stays : (k : ℕ) → handed ≡ suc k → ¬ (refusal_of o.answer ≡ 0)
      → (o.state ≡ (carried p words (followed_by ds (take k es))).state) × (o.words ≡ (carried p words (followed_by ds (take k es))).words)

-- of every plan, all lent words, and every two lists
abbrev pub RunTheorem : Type 0
RunTheorem = (p : Plan) (words ds es : List ℕ) → RunsTo p words ds es (ran p (carried p words ds) es)

-- places past a plan's counts are ignored (rules 1.2)
abbrev pub RunIgnoredTheorem : Type 0
RunIgnoredTheorem = (p q : Plan) → SameCounted p q → (o : Outcome) (ds : List ℕ) → ran q o ds ≡ ran p o ds

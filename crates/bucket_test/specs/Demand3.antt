-- Demand 3 (rules 10.3): what is claimed of a carried test. Definitions only.
use Rattle.std.specs.Prelude.{◌≡◌, ◌↔◌, ◌⊎◌, Bool, true, List, [], ◌∷◌, ℕ, ◌*◌, ◌^◌, ◌≤◌, ◌<◌, length}
use Rattle.walk.specs.Units.{M, million, wide}
use Rattle.walk.specs.Walk.{walk, NoWideBefore}
use Rattle.walk.specs.Strings.{Draws, ones, Side, Upper, Lower, settled, last_step}
use Rattle.walk.specs.Facts.{WalkFacts}
use Rattle.walk.specs.Chance.{Meets, meets?, meeting, spent, Bounds}
use Rattle.walk.specs.declared.Mark.{Mark}
use Rattle.walk.specs.declared.Mark.TheVariants.{Open}
use Rattle.walk.specs.declared.Walked.{Walked}
use Rattle.plan.specs.Plan.{threshold_at, spending_of, Accepted}
use Rattle.bucket_test.specs.Words.{part_at, Stands}
use Rattle.bucket_test.specs.Turn.{record_at}
use Rattle.bucket_test.specs.Answers.{answer_of, refusal_of}
use Rattle.bucket_test.specs.Draw.{Outcome}
use Rattle.bucket_test.specs.Carried.{carried, has_ended, taken}
use Rattle.plan.specs.declared.Plan.{Plan}
use Rattle.bucket_test.specs.declared.Answer.TheVariants.{Open as OpenAnswer}

-- ---- one threshold a with the spending E, after the draws s

-- a record's spent mass of a side
abbrev pub spent_in : Side → Walked → ℕ
spent_in Upper r = r.over
spent_in Lower r = r.under

module _ (a : ℕ) (E : ℕ → ℕ) where
  -- its mark is settled on a side at step t exactly when the draws meet that side's boundary first at t; else it is open
  pub record Marks (s : Draws) (m : Mark) : Type 0 where
    pub settles : (side : Side) (t : ℕ) → (m ≡ settled side t) ↔ Meets a E side t s
    pub else_open : (m ≡ Open) ↔ ((side : Side) (t : ℕ) → ¬ (Meets a E side t s))

  -- after n draws, of which it walked t, the number of masses rounded in its record r is at most 769 for each step walked, and so for each draw; by no
  -- more units does either spent mass in r exceed the exact chance
  pub record Excess (t n : ℕ) (r : Walked) : Type 0 where
    pub by_steps : r.rounded ≤ wide * t
    pub by_draws : r.rounded ≤ wide * n
    pub bounds : (side : Side) → Bounds t (meeting a E side t) (spent_in side r) r.rounded

-- ---- the claim on the whole list and all strings

-- the answer to the draw d, where `ended` says whether an earlier draw had an ending answer: refused by 9 exactly when d is neither 0 nor 1,
-- else by 10 exactly when an earlier one had, by nothing else; any other answer is the answer rule's for the state just reached
pub record AnswersDraw (p : Plan) (d : ℕ) (ended : Bool) (o : Outcome) : Type 0 where
  pub by_9 : (refusal_of o.answer ≡ 9) ↔ (¬ ((d ≡ 0) ⊎ (d ≡ 1)))
  pub by_10 : (refusal_of o.answer ≡ 10) ↔ (((d ≡ 0) ⊎ (d ≡ 1)) × (ended ≡ true))
  pub by_no_other : (refusal_of o.answer ≡ 0) ⊎ ((refusal_of o.answer ≡ 9) ⊎ (refusal_of o.answer ≡ 10))
  pub by_rule : refusal_of o.answer ≡ 0 → o.answer ≡ answer_of p o.state

module _ (p : Plan) (words : List ℕ) where
  -- the beginning is answered `open`, and each draw of the list as above
  unfoldable pub Answered : List ℕ → Type 0
  Answered [] = (carried p words []).answer ≡ OpenAnswer
  Answered (d ∷ ds) = AnswersDraw p d (has_ended p words ds) (carried p words (d ∷ ds)) × Answered ds

  pub record Demand3 (ds : List ℕ) : Type 0 where
    pub answered : Answered ds
    -- a refused draw leaves state and words as they are
    pub refused_stays : (d : ℕ) → ¬ (refusal_of (carried p words (d ∷ ds)).answer ≡ 0)
        → ((carried p words (d ∷ ds)).state ≡ (carried p words ds).state) × ((carried p words (d ∷ ds)).words ≡ (carried p words ds).words)
    pub n_is : (carried p words ds).state.n ≡ length (taken p words ds)
    pub ones_is : (carried p words ds).state.ones ≡ ones (taken p words ds)
    pub marks : (i : ℕ) → i < p.count → Marks (threshold_at p i) (spending_of p i) (taken p words ds) (record_at (carried p words ds).state i).mark
    pub stands : (i : ℕ) → i < p.count
        → Stands (walk (threshold_at p i) (spending_of p i) (last_step (record_at (carried p words ds).state i).mark (length (taken p words ds))))
        (record_at (carried p words ds).state i).walked (part_at i (carried p words ds).words)
    pub excess : (i : ℕ) → i < p.count
        → Excess (threshold_at p i) (spending_of p i) (last_step (record_at (carried p words ds).state i).mark (length (taken p words ds)))
        (length (taken p words ds)) (record_at (carried p words ds).state i).walked
    -- no threshold walked past its first wide step
    pub not_continued : (i : ℕ) → i < p.count
        → NoWideBefore (threshold_at p i) (spending_of p i) (last_step (record_at (carried p words ds).state i).mark (length (taken p words ds)))
    -- the facts of the walk of each threshold, at every step
    pub facts : (i : ℕ) → i < p.count → (n : ℕ) → WalkFacts (threshold_at p i) (spending_of p i) n
    -- the chances: W, which is `meeting`, sums the weights of exactly the strings that meet the side's boundary first at some step, not past
    -- the first wide one ..
    pub counted : (i : ℕ) → i < p.count → (s : Draws) (side : Side)
        → (meets? (threshold_at p i) (spending_of p i) side s ≡ true) ↔ ((t : ℕ) × Meets (threshold_at p i) (spending_of p i) side t s)
    -- .. E(n) bounds it from n = 0 on, wide or not ..
    pub allowed : (i : ℕ) → i < p.count → (n : ℕ) (side : Side)
        → meeting (threshold_at p i) (spending_of p i) side n * M ≤ spending_of p i n * million ^ n
    -- .. and the spent mass bounds it in both directions, within a unit for each mass rounded, from n = 0 on and up to the first wide step,
    -- after which no walk goes on ..
    pub chances : (i : ℕ) → i < p.count → (n : ℕ) → NoWideBefore (threshold_at p i) (spending_of p i) n → (side : Side)
        → Bounds n (meeting (threshold_at p i) (spending_of p i) side n) (spent side (walk (threshold_at p i) (spending_of p i) n))
        (walk (threshold_at p i) (spending_of p i) n).rounded
    -- .. so within 769 units for each step
    pub chances_by_steps : (i : ℕ) → i < p.count → (n : ℕ) → NoWideBefore (threshold_at p i) (spending_of p i) n → (side : Side)
        → Bounds n (meeting (threshold_at p i) (spending_of p i) side n) (spent side (walk (threshold_at p i) (spending_of p i) n)) (wide * n)

-- of every accepted plan, every lent words of the right number, and every list
abbrev pub Demand3Theorem : Type 0
Demand3Theorem = (p : Plan) → Accepted p → (words : List ℕ) → length words ≡ wide * p.count → (ds : List ℕ) → Demand3 p words ds

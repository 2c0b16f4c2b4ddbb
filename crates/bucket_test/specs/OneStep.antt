-- A draw to any state that passes refusal 11, from a beginning or not: what is claimed of it is one step by the rules from what was
-- handed in (rules 6.3). Definitions only.
use Rattle.std.specs.Prelude.{◌≡◌, List, ℕ, suc, ◌+◌, ◌*◌, ◌<◌, length, drop}
use Rattle.walk.specs.Units.{wide}
use Rattle.walk.specs.Walk.{Walk, step_walk}
use Rattle.walk.specs.Strings.{Side, Reaches, settled}
use Rattle.walk.specs.Record.{row_of}
use Rattle.walk.specs.Facts.{as_walk}
use Rattle.walk.specs.declared.Mark.{Mark}
use Rattle.walk.specs.declared.Mark.TheVariants.{Open}
use Rattle.plan.specs.Plan.{threshold_at, spending_of}
use Rattle.bucket_test.specs.Words.{part_at, Stands}
use Rattle.bucket_test.specs.Turn.{record_at}
use Rattle.bucket_test.specs.Answers.{answer_of}
use Rattle.bucket_test.specs.Draw.{Outcome, draw_refusal, drawn}
use Rattle.bucket_test.specs.declared.State.{State}
use Rattle.plan.specs.declared.Plan.{Plan}

-- the mark m is that of S ones against the boundaries of w at step n: above where S is at or over the upper one, at most where it is at or
-- under the lower one, else open
pub record MarkedAt (w : Walk) (n S : ℕ) (m : Mark) : Type 0 where
  pub settles : (side : Side) → Reaches side w.first w.upper S → m ≡ settled side n
  pub else_open : ((side : Side) → ¬ (Reaches side w.first w.upper S)) → m ≡ Open

module _ (p : Plan) (s : State) (words : List ℕ) where
  -- the walk that the record and the part at place i hold, after step n + 1 (rules 3.3 to 3.6)
  unfoldable pub stepped_at : ℕ → Walk
  stepped_at i = step_walk (threshold_at p i) (spending_of p i (suc s.n)) (suc s.n) (as_walk (row_of (record_at s i).walked (part_at i words)))

  -- the outcome o of the draw d is one step
  pub record OneStep (d : ℕ) (o : Outcome) : Type 0 where
    pub n_is : o.state.n ≡ suc s.n
    pub ones_is : o.state.ones ≡ s.ones + d
    pub open_walks : (i : ℕ) → i < p.count → (record_at s i).mark ≡ Open
        → Stands (stepped_at i) (record_at o.state i).walked (part_at i o.words)
        × MarkedAt (stepped_at i) (suc s.n) (s.ones + d) (record_at o.state i).mark
    pub settled_stays : (i : ℕ) → i < p.count → ¬ ((record_at s i).mark ≡ Open)
        → (record_at o.state i ≡ record_at s i) × (part_at i o.words ≡ part_at i words)
    -- the records past K, and how many records and words there are
    pub past_stays : drop p.count o.state.records ≡ drop p.count s.records
    pub records_size : length o.state.records ≡ length s.records
    pub words_size : length o.words ≡ wide * p.count
    pub answer_is : o.answer ≡ answer_of p o.state

-- of every plan, state, list of words and draw that nothing refuses
abbrev pub OneStepTheorem : Type 0
OneStepTheorem = (p : Plan) (s : State) (words : List ℕ) (d : ℕ) → draw_refusal p s words d ≡ 0 → OneStep p s words d (drawn p s words d)

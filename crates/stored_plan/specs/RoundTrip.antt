-- What is proved of plans and their forms, as statements (rules 2.4). The proofs are in proofs/RoundTrip.
use Rattle.std.specs.Prelude.{List, ◌++◌, ◌↔◌, ◌≡◌, ℕ, ◌+◌, ◌≤◌, length, take, drop}
use Rattle.plan.specs.Plan.{count_limit, bucket_limit, point_limit, threshold_at, allowance_at, left_at, right_at, step_at, share_at, plan_refusal}
use Rattle.plan.specs.SameCounted.{SameCounted}
use Rattle.plan.specs.declared.Plan.{Plan}
use Rattle.little.specs.Little.{Bytes}
use Rattle.stored_plan.specs.Form.{form_size, form_limit, encoded}
use Rattle.stored_plan.specs.Reading.{decoded}
use Rattle.stored_plan.specs.Writing.{written, bytes_after}

-- q is p in its numbers and each counted place, and has zeros elsewhere
pub record SamePlan (p q : Plan) : Type 0 where
  pub counted_same : SameCounted p q
  pub entries_past : (i : ℕ) → p.count ≤ i → (threshold_at q i ≡ 0) × (allowance_at q i ≡ 0)
  pub ends_past : (j : ℕ) → p.buckets ≤ j → (left_at q j ≡ 0) × (right_at q j ≡ 0)
  pub points_past : (j : ℕ) → p.points ≤ j → (step_at q j ≡ 0) × (share_at q j ≡ 0)
  pub places : (length q.thresholds ≡ count_limit) × (length q.allowances ≡ count_limit)
      × (length q.left ≡ bucket_limit) × (length q.right ≡ bucket_limit)
      × (length q.steps ≡ point_limit) × (length q.shares ≡ point_limit)

-- zeros in every number
pub record Zeros (p : Plan) : Type 0 where
  pub counts : (p.count ≡ 0) × (p.buckets ≡ 0) × (p.points ≡ 0)
  pub times : (p.delay ≡ 0) × (p.horizon ≡ 0)
  pub entries : (i : ℕ) → (threshold_at p i ≡ 0) × (allowance_at p i ≡ 0)
  pub ends : (j : ℕ) → (left_at p j ≡ 0) × (right_at p j ≡ 0)
  pub points : (j : ℕ) → (step_at p j ≡ 0) × (share_at p j ≡ 0)

-- the form of an accepted plan without points is read, and is the plan
abbrev pub PlanBack : Type 0
PlanBack = (p : Plan) → plan_refusal p ≡ 0 → p.points ≡ 0 → ((decoded (encoded p)).refusal ≡ 0) × SamePlan p (decoded (encoded p)).plan

-- accepted bytes, read and written, are the same bytes
abbrev pub BytesBack : Type 0
BytesBack = (bytes : List ℕ) → Bytes bytes → (decoded bytes).refusal ≡ 0 → encoded (decoded bytes).plan ≡ bytes

-- both of what the entries hand back: what was written into lent bytes, any that the form fits, is read as the plan
abbrev pub WrittenBack : Type 0
WrittenBack = (p : Plan) (bytes : List ℕ) → (written p bytes).refusal ≡ 0
    → let stored = take (written p bytes).size (bytes_after p bytes) in ((decoded stored).refusal ≡ 0) × SamePlan p (decoded stored).plan

-- accepted bytes, read, then written into lent bytes, any that are long enough, stand at their start, and the rest is as it was
abbrev pub ReadBack : Type 0
ReadBack = (bytes lent : List ℕ) → Bytes bytes → (decoded bytes).refusal ≡ 0 → length bytes ≤ length lent
    → let p = (decoded bytes).plan in
    (written p lent ≡ record { refusal = 0; size = length bytes }) × (bytes_after p lent ≡ bytes ++ drop (length bytes) lent)

-- an accepted plan's form has the length that its counts say, at most the longest
abbrev pub FormLength : Type 0
FormLength = (p : Plan) → plan_refusal p ≡ 0 → (length (encoded p) ≡ form_size p.count p.buckets) × (length (encoded p) ≤ form_limit)

-- one byte more than the longest form has
abbrev pub cut_at : ℕ
cut_at = form_limit + 1

-- bytes cut there are read alike: the program's buffer for a file may end there, since a longer one is refused alike by 1 or 7
abbrev pub CutReading : Type 0
CutReading = (bytes : List ℕ) → decoded (take cut_at bytes) ≡ decoded bytes

-- reading accepts exactly the forms of accepted plans without points, and the plan has none
abbrev pub AcceptedForms : Type 0
AcceptedForms = (bytes : List ℕ) → Bytes bytes
    → (((decoded bytes).refusal ≡ 0) ↔ ((p : Plan) × (plan_refusal p ≡ 0) × (p.points ≡ 0) × (bytes ≡ encoded p))) × ((decoded bytes).plan.points ≡ 0)

-- writing accepts exactly the accepted plans without points whose form is no longer than the lent bytes; 17 refuses exactly the accepted plans with
-- points, however many bytes are lent
abbrev pub AcceptedWritings : Type 0
AcceptedWritings = (p : Plan) (bytes : List ℕ)
    → (((written p bytes).refusal ≡ 0) ↔ ((plan_refusal p ≡ 0) × (p.points ≡ 0) × (length (encoded p) ≤ length bytes)))
    × (((written p bytes).refusal ≡ 17) ↔ ((plan_refusal p ≡ 0) × (¬ (p.points ≡ 0))))

-- of lent bytes, so many as are handed back are the form, and the others keep their contents
abbrev pub FormWritten : Type 0
FormWritten = (p : Plan) (bytes : List ℕ) → (written p bytes).refusal ≡ 0
    → (take (written p bytes).size (bytes_after p bytes) ≡ encoded p)
    × (drop (written p bytes).size (bytes_after p bytes) ≡ drop (written p bytes).size bytes)

-- a refused reading hands back no plan, and a refused writing leaves every byte as it was
abbrev pub NoneOnRefusal : Type 0
NoneOnRefusal = ((bytes : List ℕ) → ¬ ((decoded bytes).refusal ≡ 0) → Zeros (decoded bytes).plan)
    × ((p : Plan) (bytes : List ℕ) → ¬ ((written p bytes).refusal ≡ 0) → ((written p bytes).size ≡ 0) × (bytes_after p bytes ≡ bytes))

-- places past a count are ignored in writing too
abbrev pub IgnoredInForm : Type 0
IgnoredInForm = (p q : Plan) → SameCounted p q → (bytes : List ℕ)
    → (encoded q ≡ encoded p) × (written q bytes ≡ written p bytes) × (bytes_after q bytes ≡ bytes_after p bytes)

-- Places past a count are ignored (rules 1.2): two plans that differ in such places only. Definitions only.
use Rattle.std.specs.Prelude.{◌≡◌, ℕ, ◌<◌}
use Rattle.plan.specs.Plan.{threshold_at, allowance_at, left_at, right_at, step_at, share_at, spending_of, plan_refusal}
use Rattle.plan.specs.declared.Plan.{Plan}

-- q is p in its numbers and in each counted place
pub record SameCounted (p q : Plan) : Type 0 where
  pub counts : (q.count ≡ p.count) × (q.buckets ≡ p.buckets) × (q.points ≡ p.points)
  pub times : (q.delay ≡ p.delay) × (q.horizon ≡ p.horizon)
  pub entries : (i : ℕ) → i < p.count → (threshold_at q i ≡ threshold_at p i) × (allowance_at q i ≡ allowance_at p i)
  pub ends : (j : ℕ) → j < p.buckets → (left_at q j ≡ left_at p j) × (right_at q j ≡ right_at p j)
  pub points : (j : ℕ) → j < p.points → (step_at q j ≡ step_at p j) × (share_at q j ≡ share_at p j)

-- q stands for p in the rules and in what may be spent
pub record SameRules (p q : Plan) : Type 0 where
  pub refusal_same : plan_refusal q ≡ plan_refusal p
  pub spending_same : (i : ℕ) → i < p.count → (n : ℕ) → spending_of q i n ≡ spending_of p i n

-- of every two plans
abbrev pub SameRulesTheorem : Type 0
SameRulesTheorem = (p q : Plan) → SameCounted p q → SameRules p q

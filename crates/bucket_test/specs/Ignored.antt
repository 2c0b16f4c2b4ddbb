-- Places past a count are ignored (rules 1.2): what is claimed of two plans that differ in such places only. Definitions only.
use Rattle.std.specs.Prelude.{◌≡◌, List, ℕ}
use Rattle.plan.specs.SameCounted.{SameCounted, SameRules}
use Rattle.bucket_test.specs.Answers.{answer_of}
use Rattle.bucket_test.specs.Draw.{begun, drawn, report}
use Rattle.bucket_test.specs.declared.State.{State}
use Rattle.plan.specs.declared.Plan.{Plan}

-- q stands for p in the rules, in the answer to a state, and in every call
pub record SameTest (p q : Plan) : Type 0 where
  pub rules_same : SameRules p q
  pub answer_same : (s : State) → answer_of q s ≡ answer_of p s
  pub report_same : (s : State) → report q s ≡ report p s
  pub begun_same : (words : List ℕ) → begun q words ≡ begun p words
  pub drawn_same : (s : State) (words : List ℕ) (d : ℕ) → drawn q s words d ≡ drawn p s words d

-- of every two plans
abbrev pub IgnoredTheorem : Type 0
IgnoredTheorem = (p q : Plan) → SameCounted p q → SameTest p q

-- Which bucket an answer names (rules 7.2): what is claimed of the answer rule. Definitions only.
use Rattle.std.specs.Prelude.{◌≡◌, ◌↔◌, ℕ, suc, ◌≤◌}
use Rattle.bucket_choice.specs.Chosen.{Contains, Chosen}
use Rattle.bucket_test.specs.Answers.{low_of, high_of, answer_of}
use Rattle.bucket_test.specs.declared.State.{State}
use Rattle.plan.specs.declared.Plan.{Plan}
use Rattle.bucket_test.specs.declared.Answer.TheVariants.{Decided}

-- the answer to the state s is `decided` exactly where the interval is not crossed and some bucket contains it; and then the bucket's number, from
-- 1, is that of the first of the narrowest that do
pub record NamesNarrowest (p : Plan) (s : State) : Type 0 where
  pub decided_where : ((b : ℕ) × (answer_of p s ≡ Decided b)) ↔ ((low_of p s ≤ high_of p s) × ((j : ℕ) × Contains p (low_of p s) (high_of p s) j))
  pub decided_which : (b : ℕ)
      → (answer_of p s ≡ Decided b) ↔ ((low_of p s ≤ high_of p s) × ((j : ℕ) × (b ≡ suc j) × Chosen p (low_of p s) (high_of p s) j))

-- of every plan, accepted or not, and every state
abbrev pub NamedTheorem : Type 0
NamedTheorem = (p : Plan) (s : State) → NamesNarrowest p s

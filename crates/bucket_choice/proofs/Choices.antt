-- The choice and the one before it name what specs/Chosen says.
use mathlib.Core.Path.{sym, ◌∙◌}
use mathlib.Core.Logic.{⊎_elim}
use Prim.Native.Nat.{ℕ, ◌<◌}
use native.Mathlib.Omega.{arith}
use Rattle.walk.proofs.Tests.{clash}
use Rattle.walk.proofs.Searches.{search_hit, search_miss}
use Rattle.plan.proofs.PlaceLaws.{le_or_lt}
use Rattle.bucket_choice.specs.Choice.{contains, chosen_bucket, first_bucket}
use Rattle.bucket_choice.specs.Chosen.{Contains, Chosen, ChoiceTheorem}
use Rattle.plan.specs.declared.Plan.{Plan}
use Rattle.bucket_choice.proofs.ChoiceLaws.{contains_says, says_contains, chosen_only, chosen_none}
use Rattle.bucket_choice.proofs.BestLaws.{chosen_or_none}

module _ (p : Plan) (low high : ℕ) where
  chosen_is : chosen_bucket p low high < p.buckets → Chosen p low high (chosen_bucket p low high)
  chosen_is l = ⊎_elim (λ c. c) (λ none. absurd (omega (arith, chosen_none p low high none))) (chosen_or_none p low high)

  chosen_some : (j : ℕ) → Contains p low high j → chosen_bucket p low high < p.buckets
  chosen_some j h = ⊎_elim (λ c. c.contains_it.inside) (λ none. absurd (none j h)) (chosen_or_none p low high)

  first_is : first_bucket p low high < p.buckets → Contains p low high (first_bucket p low high)
  unfolding first_bucket
  first_is l = contains_says p low high _ l (search_hit p.buckets 0 (contains p low high) (omega arith))

  first_some : (j : ℕ) → Contains p low high j → first_bucket p low high < p.buckets
  unfolding first_bucket
  first_some j h =
      ⊎_elim
      (λ l. clash (sym (says_contains p low high h) ∙ search_miss p.buckets 0 (contains p low high) j (omega arith) (omega (arith, h.inside))))
      (λ l. l) (le_or_lt p.buckets (first_bucket p low high))

pub choices : ChoiceTheorem
choices p = record {
  chosen_names = record { named = λ low high l. (chosen_is p low high l).contains_it; some_named = chosen_some p };
  first_names = record { named = first_is p; some_named = first_some p };
  chosen_is = chosen_is p;
  only_one = λ low high i j. chosen_only p low high;
}

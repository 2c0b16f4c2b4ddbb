-- A plan that is read from plan bytes is accepted (stored_plan/specs/Reading).
use mathlib.Core.Path.{◌≡◌, refl, sym, ◌∙◌}
use mathlib.Core.List.{List, [], ◌∷◌}
use Prim.Native.Nat.{ℕ, zero, suc}
use native.Mathlib.Omega.{arith}
use lib.ListN.{length}
use Rattle.walk.specs.Numbers.{le?}
use Rattle.plan.specs.Plan.{plan_refusal, Accepted}
use Rattle.plan.proofs.PlaceLaws.{le_reads, first_one, none_both, none_says}
use Rattle.plan.proofs.AcceptedLaws.{accepted}
use Rattle.stored_plan.specs.Form.{header_size}
use Rattle.stored_plan.specs.Reading.{plan_in, form_refusal, read_refusal, decoded_by, decoded}

module _ (bytes : List ℕ) where
  -- nothing refuses the bytes, so nothing refuses the plan that they hold
  plan-judged : read_refusal bytes ≡ 0 → plan_refusal (plan_in bytes) ≡ 0
  unfolding read_refusal
  plan-judged e =
      let plan = plan_refusal (plan_in bytes) in
      ((none_says (le? header_size (length bytes)) 6 (form_refusal bytes ∷ plan ∷ []) (le_reads header_size (length bytes))
      (none_both (form_refusal bytes) (plan ∷ []) (λ q. q, λ q. q) (λ q. sym (first_one plan) ∙ q, λ q. first_one plan ∙ q))
      ).0 e).1.1

  pub plan-read : (decoded bytes).refusal ≡ 0 → Accepted (decoded bytes).plan
  unfolding decoded
  plan-read e = (accepted _).0 (go (read_refusal bytes) plan-judged e)
    where
      go : (r : ℕ) → (r ≡ 0 → plan_refusal (plan_in bytes) ≡ 0) → (decoded_by r bytes).refusal ≡ 0
          → plan_refusal (decoded_by r bytes).plan ≡ 0
      go zero f e = f refl
      go (suc r) f e = absurd (omega arith)

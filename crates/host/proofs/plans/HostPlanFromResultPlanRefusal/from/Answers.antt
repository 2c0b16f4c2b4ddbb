-- A reading by its cases.
use mathlib.Core.Path.{◌≡◌, refl}
use Prim.Native.Nat.{ℕ}
use native.Mathlib.Omega.{arith}
use Rattle.std.specs.Prelude.{Result, Ok, Err}
use Rattle.std.specs.Result.{result_unwrap_or}
use Rattle.refusals.specs.Refusals.{refusal_in}
use Rattle.refusals.specs.declared.Refusal.{Refusal}
use Rattle.plan.specs.declared.Plan.{Plan}
use Rattle.stored_plan.specs.Reading.{no_plan, read_as}
use Rattle.host.specs.Plans.{plan_out}
use Rattle.host.proofs.plans.HostPlanFromResultPlanRefusal.from.Goals as goal

-- the number of the refusal, however it is written
out : {n : ℕ} (r : Result Plan Refusal) → n ≡ refusal_in r → plan_out n (result_unwrap_or r no_plan) ≡ plan_out (read_as r).refusal (read_as r).plan
out (Ok p) e = rw e refl
out (Err r) e = rw e refl

pub returns : goal.returns
unfolding no_plan
returns c = rw c.unwrap_or-plan.ensures (out c.args.r (omega (arith, c.refusal_of.ensures)))

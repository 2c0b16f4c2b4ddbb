-- The first test that fails refuses.
use native.Mathlib.Omega.{arith}
use Rattle.std.proofs.lemmas.Grind.{common_steps}
use Rattle.refusals.proofs.RefusalLaws.{kept}
use Rattle.counting.specs.Tests.{le?}
use Rattle.counting.proofs.JudgingLaws.{in-range}
use Rattle.counting.proofs.Run.judge.Goals as goal

pub returns-in_err-ensure-2 : goal.returns-in_err-ensure-2
unfolding le?
returns-in_err-ensure-2 c = grind (arith, common_steps)

pub is_over-requires : goal.is_over-requires
is_over-requires c = omega (arith, (in-range _ _ (kept c.sizes_fit.ensures _ c.in_ok-ensure.ensures)).below)

pub returns-in_err-ensure-3 : goal.returns-in_err-ensure-3
unfolding le?
returns-in_err-ensure-3 c = grind (arith, common_steps)

pub returns : goal.returns
unfolding le?
returns c = grind (arith, common_steps)

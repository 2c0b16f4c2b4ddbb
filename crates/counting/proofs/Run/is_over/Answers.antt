-- Each test that is made stands for its part of the definition.
use native.Mathlib.Omega.{arith}
use Rattle.std.proofs.lemmas.Grind.{common_steps}
use Rattle.counting.specs.Tests.{eq?}
use Rattle.counting.specs.Run.{is_over}
use Rattle.counting.proofs.Run.is_over.Goals as goal

pub returns-then-self : goal.returns-then-self
unfolding is_over eq?
returns-then-self c = grind (arith, common_steps)

pub returns-else-self : goal.returns-else-self
unfolding is_over eq?
returns-else-self c = grind (arith, common_steps)

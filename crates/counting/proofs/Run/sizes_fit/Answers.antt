-- Each test that is made stands for its part of the definition.
use native.Mathlib.Omega.{arith}
use Rattle.std.proofs.lemmas.Grind.{common_steps}
use Rattle.counting.specs.Tests.{le?}
use Rattle.counting.specs.Run.{sizes_fit}
use Rattle.counting.proofs.Run.sizes_fit.Goals as goal

pub returns-then-self : goal.returns-then-self
unfolding sizes_fit le?
returns-then-self c = grind (arith, common_steps)

pub returns-else-self : goal.returns-else-self
unfolding sizes_fit le?
returns-else-self c = grind (arith, common_steps)

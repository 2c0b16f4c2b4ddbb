-- Each test that is made stands for its part of the definition.
use native.Mathlib.Omega.{arith}
use Rattle.std.proofs.lemmas.Grind.{common_steps}
use Rattle.counting.specs.Tests.{le?}
use Rattle.counting.specs.Run.{is_sound}
use Rattle.counting.proofs.Run.is_sound.Goals as goal

pub returns-then-self-2 : goal.returns-then-self-2
unfolding is_sound le?
returns-then-self-2 c = grind (arith, common_steps)

pub returns-else-self-2 : goal.returns-else-self-2
unfolding is_sound le?
returns-else-self-2 c = grind (arith, common_steps)

-- The first that fits of the h-th one, draw n - 1, and neither.
use native.Mathlib.Omega.{arith}
use Rattle.counting.specs.Tests.{eq?}
use Rattle.counting.specs.Run.{answer_of}
use Rattle.counting.proofs.Run.answer.Goals as goal

pub returns-then-self : goal.returns-then-self
unfolding answer_of eq?
returns-then-self c = grind arith

pub returns-then-self-2 : goal.returns-then-self-2
unfolding answer_of eq?
returns-then-self-2 c = grind arith

pub returns-else-self-2 : goal.returns-else-self-2
unfolding answer_of eq?
returns-else-self-2 c = grind arith

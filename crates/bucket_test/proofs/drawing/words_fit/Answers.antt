-- The test is the equation.
use mathlib.Core.Path.{refl}
use Rattle.walk.specs.Units.{wide}
use Rattle.plan.specs.Places.{eq?}
use Rattle.bucket_test.proofs.drawing.words_fit.Goals as goal

pub returns : goal.returns
unfolding eq? wide
returns c = refl

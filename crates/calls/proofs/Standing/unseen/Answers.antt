-- The whole interval.
use mathlib.Core.Path.{refl}
use Rattle.walk.specs.Units.{million}
use Rattle.calls.proofs.Standing.unseen.Goals as goal

pub returns : goal.returns
unfolding million
returns c = refl

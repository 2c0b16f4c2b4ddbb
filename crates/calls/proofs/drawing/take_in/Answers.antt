-- The part has room for any threshold's masses.
use native.Mathlib.Omega.{arith}
use Rattle.walk.specs.Units.{wide}
use Rattle.calls.proofs.drawing.take_in.Goals as goal

pub whole_as_slice-take_with : goal.whole_as_slice-take_with
unfolding wide
whole_as_slice-take_with g c = omega (arith, c.requires.2)

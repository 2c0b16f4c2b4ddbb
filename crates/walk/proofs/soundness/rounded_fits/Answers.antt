-- The product of 769 and a number of 32 bits fits 64.
use Rattle.std.proofs.Common.{refl}
use Rattle.walk.specs.Numbers.{le?}
use Rattle.walk.specs.Units.{wide}
use Rattle.walk.specs.Soundness.{rounded_fits}
use Rattle.walk.proofs.soundness.rounded_fits.Goals as goal

pub returns : goal.returns
unfolding rounded_fits le? wide
returns c = rw (c.from.ensures, c.from-2.ensures) refl

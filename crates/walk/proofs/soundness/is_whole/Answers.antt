-- What is missing after two masses is at most the third exactly when the three make up M.
use Rattle.std.proofs.Common.{arith}
use Rattle.std.proofs.lemmas.Bool.Decides.{nat_tests}
use Rattle.walk.specs.Numbers.{le?}
use Rattle.walk.specs.Units.{M}
use Rattle.walk.proofs.soundness.is_whole.Goals as goal

pub returns : goal.returns
unfolding M le?
returns c = grind (arith, nat_tests)

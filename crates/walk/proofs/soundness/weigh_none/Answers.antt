-- No mass is over 2^43, and the sum of none is 0.
use Rattle.std.proofs.Common.{refl, arith}
use Rattle.walk.specs.Units.{mass_limit}
use Rattle.walk.proofs.Tests.{le?_complete}
use Rattle.walk.proofs.soundness.weigh_none.Goals as goal

pub returns : goal.returns
unfolding mass_limit
returns c = λ masses. record { fits = le?_complete _ _ (omega arith); sums = λ few p. refl }

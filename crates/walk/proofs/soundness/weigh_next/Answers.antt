-- By `weighs_next`.
use Rattle.std.proofs.Common.{refl}
use Rattle.walk.proofs.WeighingLaws.{weighs_next}
use Rattle.walk.proofs.soundness.weigh_next.Goals as goal

pub returns : goal.returns
returns c = λ masses i is h. weighs_next masses i _ _ _ _ is h refl refl refl

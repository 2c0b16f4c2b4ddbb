-- The bits of the difference are 770 exactly when it is.
use Rattle.std.proofs.Common.{◌∙◌, arith}
use Rattle.walk.specs.Units.{wide}
use Rattle.walk.specs.Walk.{wide?}
use Rattle.walk.specs.Record.{is_wide}
use Rattle.walk.proofs.Signed.{eq_bits}
use Rattle.walk.proofs.soundness.is_wide.Goals as goal

pub returns : goal.returns
unfolding is_wide wide? wide
returns c = eq_bits c.apart.result 770 (record { sfits = c.apart.type_inv }) (omega arith) ∙ rw c.apart.ensures

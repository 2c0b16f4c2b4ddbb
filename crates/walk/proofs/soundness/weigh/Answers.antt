-- The words so far are weighed.
use Rattle.walk.proofs.soundness.weigh.Goals as goal

pub loop-x-init : goal.loop-x-init
loop-x-init c = c.weigh_none-w.ensures _

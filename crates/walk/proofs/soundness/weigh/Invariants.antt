-- The words so far are weighed.
use Rattle.walk.specs.Weighing.{Weighs}
use Rattle.walk.proofs.soundness.weigh.Given as goal

abbrev pub invariant-loop-x : goal.invariant-loop-x
invariant-loop-x l = Weighs l.words l.x-index l.w

-- Rule 4 is the two ranges.
use Rattle.walk.specs.Units.{horizon_limit}
use Rattle.plan.specs.Plan.{rule4}
use Rattle.plan.proofs.Plan.times_fit.Goals as goal

pub returns-then-within : goal.returns-then-within
unfolding rule4 horizon_limit
returns-then-within c = rw (← c.within.ensures, c.if-within.true) c.within-then-within.ensures

pub returns-else-within : goal.returns-else-within
unfolding rule4
returns-else-within c = rw (← c.within.ensures, c.if-within.false)

-- Rule 1 is the two ranges.
use Rattle.plan.specs.Plan.{counts_fit}
use Rattle.plan.proofs.rules.counts_fit.Goals as goal

pub returns-then-within : goal.returns-then-within
unfolding counts_fit
returns-then-within c = rw (← c.within.ensures, c.if-within.true) c.within-then-within.ensures

pub returns-else-within : goal.returns-else-within
unfolding counts_fit
returns-else-within c = rw (← c.within.ensures, c.if-within.false)

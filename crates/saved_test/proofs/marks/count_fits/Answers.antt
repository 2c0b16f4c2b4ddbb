-- By the mark; of an open one by its boundaries.
use native.Mathlib.Omega.{arith}
use Rattle.std.proofs.lemmas.Grind.{common_steps}
use Rattle.walk.specs.Units.{wide}
use Rattle.walk.specs.Numbers.{le?}
use Rattle.saved_test.proofs.marks.count_fits.Goals as goal

pub returns-in-Open : goal.returns-in-Open
unfolding wide le?
returns-in-Open c = rw (c.in-Open.is, c.contains.ensures.value, c.new.ensures.start, c.new.ensures.end, c.new.ensures.exhausted, c.counts_between.ensures.0) (grind (arith, common_steps))

-- An open threshold walks one step, and is marked by the boundaries of that step.
use Rattle.bucket_test.specs.Turn.{walked_on}
use Rattle.bucket_test.proofs.turning.turn.Goals as goal

pub returns-in-Open : goal.returns-in-Open
unfolding walked_on
returns-in-Open c = rw c.in-Open.is (rw (c.walked_on.ensures, c.step.ensures.0), c.step.ensures.1)

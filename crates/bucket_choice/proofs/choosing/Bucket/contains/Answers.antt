-- The two tests of the definition, one after the other.
use Rattle.walk.specs.Numbers.{le?}
use Rattle.walk.proofs.Tests.{le?_complete, le?_fails}
use Rattle.bucket_choice.proofs.choosing.Bucket.contains.Goals as goal

pub returns-then-self-interval : goal.returns-then-self-interval
unfolding le?
returns-then-self-interval c = rw (le?_complete c.args.self.left c.args.interval.low c.if-self-interval.true)

pub returns-else-self-interval : goal.returns-else-self-interval
unfolding le?
returns-else-self-interval c = rw (le?_fails c.args.self.left c.args.interval.low c.if-self-interval.false)

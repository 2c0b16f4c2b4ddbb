-- One part of rule 5 after the other.
use borrow.Author.Rules.{rules}
use borrow.Author.Tests.{tests}
use Rattle.walk.specs.Numbers.{le?}
use Rattle.walk.specs.Units.{million}
use Rattle.plan.specs.Places.{eq?}
use Rattle.plan.proofs.Plan.bucket_fits.Goals as goal

pub returns-then-permits : goal.returns-then-permits
unfolding million eq? le?
returns-then-permits c = search (rules, tests)

pub returns-else-permits : goal.returns-else-permits
unfolding million eq? le?
returns-else-permits c = search (rules, tests)

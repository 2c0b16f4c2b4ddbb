-- Both ends of the range are included.
use borrow.Author.Rules.{rules}
use borrow.Author.Tests.{tests}
use Rattle.walk.specs.Numbers.{le?}
use Rattle.plan.proofs.rules.within.Goals as goal

pub returns : goal.returns
unfolding le?
returns c = search (rules, tests)

-- By the delay where there is no point, else by the share.
use Rattle.walk.specs.Units.{million}
use Rattle.plan.specs.Tables.{portion_of}
use Rattle.plan.proofs.PlaceLaws.{eq?_complete, eq?_fails}
use Rattle.plan.proofs.Plan.portion_at.Goals as goal

pub returns-then-self-eq0 : goal.returns-then-self-eq0
unfolding portion_of
returns-then-self-eq0 c = rw (eq?_complete c.args.self.now.points 0 c.if-self-eq0.true, c.from-draws.ensures, c.from.ensures)

pub returns : goal.returns
unfolding portion_of million
returns c = rw (eq?_fails c.args.self.now.points 0 c.if-self-eq0.false, c.from-2.ensures, c.from-3.ensures, c.share_by.ensures)

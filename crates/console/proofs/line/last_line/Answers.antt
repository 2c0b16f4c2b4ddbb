-- The line of what is reported.
use Rattle.console.specs.Line.{line_after}
use Rattle.console.proofs.line.last_line.Goals as goal

pub returns : goal.returns
unfolding line_after
returns c = rw (← c.report_on-v.ensures) c.line_of.ensures

use Rattle.std.proofs.Common.{rules}
use Rattle.host.specs.Runs.{run_out}
use Rattle.host.proofs.runs.HostRunFromDrawn.from.Goals as goal

pub returns : goal.returns
unfolding run_out
returns c = search rules

use Rattle.std.proofs.Common.{rules}
use Rattle.host.specs.States.{drawn_out}
use Rattle.host.proofs.states.HostStateFromDrawn.from.Goals as goal

pub returns : goal.returns
unfolding drawn_out
returns c = search rules

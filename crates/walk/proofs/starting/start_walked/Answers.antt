-- The record that is made is that of step 0.
use Rattle.std.proofs.Common.{refl}
use Rattle.walk.specs.Walk.{below}
use Rattle.walk.specs.Row.{start_row}
use Rattle.walk.specs.Record.{record_of, start_walked}
use Rattle.walk.proofs.starting.start_walked.Goals as goal

pub returns : goal.returns
unfolding start_walked record_of start_row below
returns c = refl

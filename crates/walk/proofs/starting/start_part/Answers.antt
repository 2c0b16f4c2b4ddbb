-- Zeros in every word; then the first is the whole mass.
use Rattle.std.proofs.Common.{arith}
use Rattle.walk.specs.Units.{M, wide}
use Rattle.walk.specs.Row.{start_row}
use Rattle.walk.specs.Record.{padded, start_part}
use Rattle.walk.proofs.starting.start_part.Goals as goal

pub bounds-part-0 : goal.bounds-part-0
unfolding wide
bounds-part-0 c = omega arith

pub returns : goal.returns
unfolding start_part start_row padded M wide
returns c = rw (c.fill.ensures.after (λ y e. e), c.requires)

-- The new record's boundaries say how many masses stand in front; behind them the words are cleared.
use Rattle.std.proofs.Common.{arith}
use Rattle.walk.proofs.Parts.{next_ordered, live_is, next_fits, cleared}
use Rattle.walk.proofs.step.step.Goals as goal

pub live-requires : goal.live-requires
live-requires c = next_ordered c.requires.0 c.advance-next.ensures.0

pub clear_from-requires : goal.clear_from-requires
clear_from-requires c =
    let s = c.requires.0 in
    omega (arith, live_is s c.advance-next.ensures.0 c.live.ensures, next_fits s, c.advance-next.auto.part, c.requires.1)

pub returns : goal.returns
returns c =
    let next = c.advance-next in
    (next.ensures.0, cleared c.requires.0 next.ensures.0 c.live.ensures _ _ next.ensures.1 (omega (arith, next.auto.part, c.requires.1)) c.clear_from.ensures)

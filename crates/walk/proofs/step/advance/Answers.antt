-- `spread` leaves the cells in front, and `trim` cuts them where the definition does; the bounds are those of a row that may be stepped.
use Rattle.std.proofs.Common.{◌≤◌, arith}
use Rattle.walk.specs.Units.{wide, horizon_limit}
use Rattle.walk.specs.Record.{row_of}
use Rattle.walk.proofs.Parts.{order, ordered, counted, few_rounded, more, places_fit, stepped}
use Rattle.walk.proofs.step.advance.Goals.{After-trim-cut}
use Rattle.walk.proofs.step.advance.Goals as goal

pub live-n-requires : goal.live-n-requires
live-n-requires c = ordered c.requires

pub spread-more-requires : goal.spread-more-requires
unfolding row_of
spread-more-requires c =
    let s = c.requires in
    (omega (arith, s.room), omega (arith, s.narrow, order s), rw c.from.ensures s.threshold, rw c.live-n.ensures s.small)

pub trim-cut-requires : goal.trim-cut-requires
unfolding row_of
trim-cut-requires c =
    let s = c.requires in
    let spread = c.spread-more in
    omega (arith, spread.auto.part, s.room, s.narrow, order s, s.sound, more s c.live-n.ensures (rw c.from.ensures at spread.ensures).1)

-- after `trim`: both places are among the words
fits : (c : After-trim-cut) → (c.trim-cut.result.hi ≤ wide) × (c.trim-cut.result.lo ≤ wide)
fits c = places_fit c.requires c.live-n.ensures (rw c.from.ensures at c.spread-more.ensures).1 c.trim-cut.ensures

pub raised-requires : goal.raised-requires
raised-requires c = (counted c.requires, (fits (goal.at.raised-requires c).After-trim-cut).1)

pub first-requires : goal.first-requires
first-requires c = counted c.requires

pub overflow_cast-result : goal.overflow_cast-result
unfolding wide
overflow_cast-result c = omega (arith, fits (goal.at.overflow_cast-result c).After-trim-cut)

pub overflow_add-result : goal.overflow_add-result
unfolding wide horizon_limit
overflow_add-result c =
    omega (arith, fits (goal.at.overflow_add-result c).After-trim-cut, counted c.requires)

pub overflow_add-result-2 : goal.overflow_add-result-2
unfolding wide horizon_limit
overflow_add-result-2 c =
    let spread = rw c.from.ensures at c.spread-more.ensures in
    omega (arith, spread.0, few_rounded c.requires c.live-n.ensures spread.1, c.requires.rounded_holds)

pub returns : goal.returns
returns c =
    let s = c.requires in
    let spread = rw c.from.ensures at c.spread-more.ensures in
    stepped s c.live-n.ensures spread.1 c.trim-cut.ensures c.raised.ensures c.first.ensures spread.0

-- By the masses of the threshold with the most; an open threshold is not wide.
use native.Mathlib.Omega.{arith}
use Rattle.walk.specs.Units.{wide}
use Rattle.saved_test.specs.Form.{record_offset}
use Rattle.calls.proofs.Taking.{ready_few, ready_long, few_live_in}
use Rattle.calls.proofs.drawing.take_in_enough.Goals as goal

pub most_masses-most-requires : goal.most_masses-most-requires
unfolding record_offset
most_masses-most-requires c = (ready_few c.requires, ready_long c.requires)

pub take_in-requires : goal.take_in-requires
unfolding wide
take_in-requires c = (c.requires, λ i l. omega (arith, c.most_masses-most.ensures i l, c.if-most-lt-SHORT.true), omega arith)

pub take_in-requires-then-most-lt-MIDDLE : goal.take_in-requires-then-most-lt-MIDDLE
unfolding wide
take_in-requires-then-most-lt-MIDDLE c = (c.requires, λ i l. omega (arith, c.most_masses-most.ensures i l, c.if-most-lt-MIDDLE.true), omega arith)

pub take_in-requires-2 : goal.take_in-requires-2
unfolding wide
take_in-requires-2 c = (c.requires, few_live_in c.requires, omega arith)

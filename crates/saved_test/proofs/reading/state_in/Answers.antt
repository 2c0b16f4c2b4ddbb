-- n, S and the records.
use Rattle.saved_test.specs.Reading.{state_in}
use Rattle.saved_test.proofs.reading.state_in.Goals as goal

pub returns : goal.returns
unfolding state_in
returns c = rw (c.records_in-records.ensures, c.read_u32-ones.ensures.0, c.read_u32-n.ensures.0)

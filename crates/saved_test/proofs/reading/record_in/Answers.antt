-- By its offset.
use Rattle.saved_test.specs.Form.{record_offset}
use Rattle.saved_test.proofs.reading.record_in.Goals as goal

pub returns : goal.returns
unfolding record_offset
returns c = c.record_from.ensures

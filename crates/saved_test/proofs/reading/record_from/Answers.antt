-- Field by field.
use Rattle.saved_test.proofs.ReadingLaws.{record_made}
use Rattle.saved_test.proofs.reading.record_from.Goals as goal

pub returns : goal.returns
returns c =
    record_made _ _ _ _ _ _ _ _ _ _ _
    c.read_u32-code.ensures.0
    c.read_u32-step.ensures.0
    c.read_u32.ensures.0
    c.read_u32.ensures.1
    c.read_u32-upper.ensures.0
    c.read_u64-over.ensures
    c.read_u64-under.ensures
    c.read_u32-rounded.ensures.0
    c.mark_of-mark.ensures
    c.cast_signed-lower.ensures

-- The two tests of the definition, one after the other.
use Rattle.plan.specs.Places.{eq?}
use Rattle.plan.proofs.PlaceLaws.{eq?_complete, eq?_fails}
use Rattle.stored_plan.specs.Reading.{count_in, offsets_fit}
use Rattle.stored_plan.proofs.reading.offsets_fit.Goals as goal

pub returns-then-thresholds-eq-HEADER_SIZE : goal.returns-then-thresholds-eq-HEADER_SIZE
unfolding offsets_fit count_in eq?
returns-then-thresholds-eq-HEADER_SIZE c =
    let o = c.read_u16-thresholds in
    rw (
      ← o.ensures.0,
      ← c.read_u16-buckets.ensures.0,
      ← c.read_u16-count.ensures.0,
      eq?_complete o.result _ c.if-thresholds-eq-HEADER_SIZE.true,
      c.bucket_offset.ensures,
    )

pub returns-else-thresholds-eq-HEADER_SIZE : goal.returns-else-thresholds-eq-HEADER_SIZE
unfolding offsets_fit eq?
returns-else-thresholds-eq-HEADER_SIZE c =
    let o = c.read_u16-thresholds in
    rw (← o.ensures.0, eq?_fails o.result _ c.if-thresholds-eq-HEADER_SIZE.false)

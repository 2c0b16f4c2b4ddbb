-- Each number stands where the definition reads it.
use Rattle.stored_plan.specs.Reading.{count_in, buckets_in, plan_in}
use Rattle.stored_plan.proofs.reading.plan_into.Goals as goal

pub returns : goal.returns
unfolding plan_in count_in buckets_in
returns c =
    let k = c.read_u16-plan in
    let b = c.read_u16-plan-2 in
    rw (
      c.buckets_in.ensures.0,
      c.buckets_in.ensures.1,
      c.thresholds_in.ensures.0,
      c.thresholds_in.ensures.1,
      c.bucket_offset-at.ensures,
      c.read_u32-plan.ensures.0,
      c.read_u32-plan-2.ensures.0,
      b.ensures.0,
      k.ensures.0,
      c.requires.1.0,
      c.requires.1.1,
      c.requires.1.2,
      c.requires.1.3,
    )

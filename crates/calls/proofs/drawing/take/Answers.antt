-- 12, or the answer to what the draw leaves.
use native.Mathlib.Omega.{arith}
use Rattle.walk.specs.Units.{horizon_limit}
use Rattle.plan.specs.Places.{eq?}
use Rattle.calls.proofs.Taking.{numbered, risen, few_buckets}
use Rattle.calls.proofs.CallLaws.{hands_taken}
use Rattle.calls.proofs.drawing.take.Goals as goal

pub read_u32-n-requires : goal.read_u32-n-requires
read_u32-n-requires c = omega (arith, numbered c.requires)

pub overflow_add-spent : goal.overflow_add-spent
unfolding horizon_limit
overflow_add-spent c = omega (arith, (risen c.requires).0, c.read_u32-n.ensures.0)

pub first_that_fits-requires : goal.first_that_fits-requires
first_that_fits-requires c = few_buckets c.requires

pub returns : goal.returns
unfolding eq?
returns c =
    hands_taken _ _ _ c.args.lent.now c.requires _ _ c.in_ok-after.ensures _ (rw c.read_u32-n.ensures.0) _ c.first_that_fits.ensures

-- Both tables are filled up to place j.
use native.Mathlib.Omega.{arith}
use Rattle.little.proofs.FilledLaws.{both_none, both_next, both_all}
use Rattle.stored_plan.proofs.reading.buckets_in.Goals as goal

pub loop-j-init : goal.loop-j-init
loop-j-init c = both_none _ _ _ _ _ _ _ _ _

pub loop-j-preserved : goal.loop-j-preserved
loop-j-preserved c =
    let l = c.loop-j in
    let more = c.loop-j-test.true in
    both_next _ _ _ _ _ _ _ _ _ l.j l.left l.right l.invariant more _ _ c.read_u32.ensures.0 c.read_u32-in-loop-j.ensures.0

pub returns : goal.returns
returns c = let l = c.loop-j in both_all _ _ _ _ _ _ _ _ _ l.j l.left l.right l.invariant (omega arith)

-- Both tables are filled up to place i.
use native.Mathlib.Omega.{arith}
use Rattle.little.proofs.FilledLaws.{both_none, both_next, both_all}
use Rattle.stored_plan.specs.Form.{header_size, threshold_entry_size, allowance_field}
use Rattle.stored_plan.proofs.reading.thresholds_in.Goals as goal

pub loop-i-init : goal.loop-i-init
loop-i-init c = both_none _ 4 8 header_size allowance_field threshold_entry_size _ _ _

pub loop-i-preserved : goal.loop-i-preserved
loop-i-preserved c =
    let l = c.loop-i in
    let more = c.loop-i-test.true in
    both_next _ 4 8 header_size allowance_field threshold_entry_size _ _ _ l.i l.thresholds l.allowances l.invariant more _ _ c.read_u32.ensures.0 c.read_u64.ensures

pub returns : goal.returns
returns c = let l = c.loop-i in both_all _ 4 8 header_size allowance_field threshold_entry_size _ _ _ l.i l.thresholds l.allowances l.invariant (omega arith)

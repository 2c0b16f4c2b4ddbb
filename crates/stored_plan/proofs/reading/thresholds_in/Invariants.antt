-- Both tables are filled up to place i.
use Prim.Native.Nat.{◌-◌}
use Rattle.little.proofs.FilledLaws.{BothTo}
use Rattle.stored_plan.specs.Form.{header_size, threshold_entry_size, allowance_field}
use Rattle.stored_plan.proofs.reading.thresholds_in.Given as goal

abbrev pub invariant-loop-i : goal.invariant-loop-i
invariant-loop-i l = BothTo l.count 4 8 header_size allowance_field threshold_entry_size l.bytes l.initial.thresholds l.initial.allowances l.i l.thresholds l.allowances

abbrev pub decreases-loop-i : goal.decreases-loop-i
decreases-loop-i l = l.count - l.i

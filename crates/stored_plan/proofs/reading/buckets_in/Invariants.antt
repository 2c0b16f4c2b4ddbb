-- Both tables are filled up to place j.
use Prim.Native.Nat.{◌-◌}
use Rattle.little.proofs.FilledLaws.{BothTo}
use Rattle.stored_plan.specs.Form.{bucket_entry_size, right_field}
use Rattle.stored_plan.proofs.reading.buckets_in.Given as goal

abbrev pub invariant-loop-j : goal.invariant-loop-j
invariant-loop-j l = BothTo l.count 4 4 l.from right_field bucket_entry_size l.bytes l.initial.left l.initial.right l.j l.left l.right

abbrev pub decreases-loop-j : goal.decreases-loop-j
decreases-loop-j l = l.count - l.j

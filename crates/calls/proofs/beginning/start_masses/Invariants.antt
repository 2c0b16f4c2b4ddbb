-- The masses before place i are put.
use Prim.Native.Nat.{◌-◌}
use Rattle.walk.specs.Units.{M}
use Rattle.little.specs.Little.{to_le}
use Rattle.little.proofs.LittleLaws.{to_length}
use Rattle.little.proofs.EntryLaws.{PutTo}
use Rattle.saved_test.specs.Form.{mass_size, record_offset}
use Rattle.calls.proofs.beginning.start_masses.Given as goal

abbrev pub invariant-loop-i : goal.invariant-loop-i
invariant-loop-i l = PutTo (λ k. to_le mass_size M) mass_size (λ k. to_length mass_size M) (record_offset l.count) l.count l.initial.lent l.i l.lent

abbrev pub decreases-loop-i : goal.decreases-loop-i
decreases-loop-i l = l.count - l.i

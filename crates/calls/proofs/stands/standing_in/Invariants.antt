-- After i places s is how the first i records stand; its high never passes a million, as `seen` asks.
use Prim.Native.Nat.{◌-◌, ◌≤◌}
use Rattle.walk.specs.Units.{million}
use Rattle.saved_test.specs.Reading.{record_in}
use Rattle.calls.specs.Inner.{Seen}
use Rattle.calls.proofs.stands.standing_in.Given as goal

abbrev pub invariant-loop-i : goal.invariant-loop-i
invariant-loop-i l = (l.i ≤ l.count) × Seen l.p l.i (record_in l.bytes) l.s × (l.s.interval.high ≤ million)

abbrev pub decreases-loop-i : goal.decreases-loop-i
decreases-loop-i l = l.count - l.i

-- The parts before place i are read.
use Rattle.saved_test.specs.Reading.{mass_offset, part_in}
use Rattle.plan.specs.Places.{join_to}
use Rattle.walk.specs.Units.{wide}
use lib.ListN.{length, drop}
use Prim.Native.Nat.{◌*◌, ◌-◌, ◌≤◌}
use mathlib.Core.List.{◌++◌}
use mathlib.Core.Path.{◌≡◌}
use Rattle.saved_test.proofs.reading.parts_in.Given as goal

abbrev pub invariant-loop-i : goal.invariant-loop-i
invariant-loop-i l =
    (l.i ≤ l.count) × (length l.initial.words ≡ 769 * l.count) × (length l.words ≡ length l.initial.words) × (l.words ≡ join_to l.i (part_in l.bytes l.count) ++ drop (wide * l.i) l.initial.words)
    × (l.at ≡ mass_offset l.bytes l.count l.i)

abbrev pub decreases-loop-i : goal.decreases-loop-i
decreases-loop-i l = l.count - l.i

-- After i turns the first i records and parts have had theirs; the others are as they were.
use mathlib.Core.Path.{◌≡◌}
use mathlib.Core.List.{List, ◌++◌}
use Prim.Native.Nat.{ℕ, ◌*◌, ◌-◌, ◌≤◌}
use lib.ListN.{length, drop, get_or}
use Rattle.walk.specs.Units.{wide}
use Rattle.plan.specs.Places.{over_to, join_to}
use Rattle.bucket_test.specs.Turn.{no_record, record_turn, part_turn}
use Rattle.plan.specs.declared.Plan.{Plan}
use Rattle.bucket_test.specs.declared.Threshold.{Threshold}
use Rattle.bucket_test.proofs.turning.turn_all.Given as goal

abbrev pub part_of : Plan → List Threshold → List ℕ → ℕ → ℕ → ℕ → List ℕ
part_of p rs ws n ones i = part_turn p ws n ones i (get_or rs i no_record)

abbrev pub invariant-loop-i : goal.invariant-loop-i
invariant-loop-i l =
    (l.i ≤ l.count)
    × (l.count ≤ 10)
    × (length l.initial.words ≡ 769 * l.count)
    × (length l.words ≡ length l.initial.words)
    × (l.next ≡ over_to l.i (record_turn l.p l.initial.words l.n l.ones) l.initial.next)
    × (l.words ≡ join_to l.i (part_of l.p l.initial.next l.initial.words l.n l.ones) ++ drop (wide * l.i) l.initial.words)

abbrev pub decreases-loop-i : goal.decreases-loop-i
decreases-loop-i l = l.count - l.i

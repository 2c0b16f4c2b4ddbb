-- The first i parts are those of step 0; the others are as they were.
use mathlib.Core.Path.{◌≡◌}
use mathlib.Core.List.{List, ◌++◌}
use Prim.Native.Nat.{ℕ, ◌*◌, ◌-◌, ◌≤◌}
use lib.ListN.{length, drop}
use Rattle.walk.specs.Units.{wide}
use Rattle.walk.specs.Record.{start_part}
use Rattle.plan.specs.Places.{join_to}
use Rattle.bucket_test.proofs.starting.start_words.Given as goal

abbrev pub start_at : ℕ → List ℕ
start_at i = start_part

abbrev pub invariant-loop-i : goal.invariant-loop-i
invariant-loop-i l =
    (l.i ≤ l.count) × (length l.initial.words ≡ 769 * l.count) × (length l.words ≡ length l.initial.words) × (l.words ≡ join_to l.i start_at ++ drop (wide * l.i) l.initial.words)

abbrev pub decreases-loop-i : goal.decreases-loop-i
decreases-loop-i l = l.count - l.i

-- What is left of the run is what the run is.
use mathlib.Core.Path.{◌≡◌}
use Prim.Native.Nat.{◌-◌, ◌≤◌}
use lib.ListN.{length, drop}
use Rattle.bucket_test.specs.Draw.{outcome_of}
use Rattle.console.specs.Run.{ran}
use Rattle.console.proofs.running.run.Given as goal

abbrev pub invariant-loop-bit : goal.invariant-loop-bit
invariant-loop-bit l =
    (l.bit-index ≤ length l.draws) × (length l.words ≡ length l.initial.words) × (ran l.p (outcome_of l.drawn l.words) (drop l.bit-index l.draws) ≡ ran l.p (outcome_of l.initial.drawn l.initial.words) l.draws)

abbrev pub decreases-loop-bit : goal.decreases-loop-bit
decreases-loop-bit l = length l.draws - l.bit-index

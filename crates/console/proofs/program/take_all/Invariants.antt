-- Each read adds its text to the text so far.
use mathlib.Core.Path.{◌≡◌}
use lib.ListN.{length}
use Rattle.bucket_test.specs.Draw.{outcome_of}
use Rattle.console.proofs.Chunks.{ComesToGiven}
use Rattle.console.proofs.program.take_all.Given as goal

abbrev pub invariant-loop-turn : goal.invariant-loop-turn
invariant-loop-turn g l =
    (length l.words ≡ length l.initial.words) × ComesToGiven l.p (outcome_of l.initial.drawn l.initial.words) l.drawn l.words (g.R.Read.remaining l.initial.input) (g.R.Read.remaining l.input)

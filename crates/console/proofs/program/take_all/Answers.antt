-- Each read adds its text to the text so far.
use mathlib.Core.Path.{refl}
use borrow.Author.Rules.{rules}
use Rattle.console.proofs.Chunks.{taken_none, taken_more}
use Rattle.console.proofs.program.take_all.Goals as goal

pub returns-then-not-answer_open : goal.returns-then-not-answer_open
returns-then-not-answer_open g c = taken_none _ _ _ _

pub loop-turn-init : goal.loop-turn-init
loop-turn-init g c = (refl, taken_none _ _ _ _)

pub returns-in-Break : goal.returns-in-Break
returns-in-Break g c = taken_more _ _ _ _ _ _ _ _ _ c.loop-turn.invariant.1 c.in-Break.ensures

pub loop-turn-preserved : goal.loop-turn-preserved
loop-turn-preserved g c = (search rules, taken_more _ _ _ _ _ _ _ _ _ c.loop-turn.invariant.1 c.in-Continue.ensures)

-- A draw that is refused, and one that is taken.
use mathlib.Core.Path.{sym, ◌∙◌}
use native.Mathlib.Omega.{arith}
use Rattle.refusals.proofs.RefusalLaws.{number_is}
use Rattle.counting.proofs.JudgingLaws.{drawn_refused, taken}
use Rattle.counting.proofs.drawing.draw.Goals as goal

pub returns-in-Err : goal.returns-in-Err
returns-in-Err c = c.refused.ensures ∙ sym (drawn_refused _ _ _ (number_is _) c.in-Err.ensures)

pub overflow_add-run : goal.overflow_add-run
overflow_add-run c = let t = taken _ _ c.in_default.ensures in omega (arith, t.draws)

pub overflow_add-run-2 : goal.overflow_add-run-2
overflow_add-run-2 c = let t = taken _ _ c.in_default.ensures in omega (arith, t.ones)

pub answer-requires : goal.answer-requires
answer-requires c = let t = taken _ _ c.in_default.ensures in (t.least, omega (arith, t.ones))

pub returns : goal.returns
returns c = rw (c.answer.ensures, c.from.ensures) (sym (taken _ _ c.in_default.ensures).is)

-- Each return is one case of the rule.
use Rattle.plan.proofs.PlaceLaws.{eq?_complete, eq?_fails}
use Rattle.console.specs.Input.{draw_of}
use Rattle.console.proofs.input.draw_of.Goals as goal

pub returns-then-c-eq-DIGIT_0 : goal.returns-then-c-eq-DIGIT_0
unfolding draw_of
returns-then-c-eq-DIGIT_0 c = rw (eq?_complete _ _ c.if-c-eq-DIGIT_0.true)

pub returns-then-c-eq-DIGIT_1 : goal.returns-then-c-eq-DIGIT_1
unfolding draw_of
returns-then-c-eq-DIGIT_1 c = rw (eq?_fails _ _ c.if-c-eq-DIGIT_0.false, eq?_complete _ _ c.if-c-eq-DIGIT_1.true)

pub returns : goal.returns
unfolding draw_of
returns c = rw (eq?_fails _ _ c.if-c-eq-DIGIT_0.false, eq?_fails _ _ c.if-c-eq-DIGIT_1.false)

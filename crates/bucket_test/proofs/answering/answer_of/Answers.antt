-- The rule of the state's interval, of what is wide and of the horizon.
use mathlib.Core.Path.{refl, ◌∙◌}
use Rattle.plan.specs.Places.{eq?}
use Rattle.bucket_test.proofs.AnsweringLaws.{rule_of}
use Rattle.bucket_test.proofs.answering.answer_of.Goals as goal

pub returns : goal.returns
unfolding eq?
returns c =
    let v = c.interval_of.ensures in
    let a = c.args in
    c.first_that_fits.ensures ∙ rule_of a.p.now a.s.now v.0 v.1 c.any_wide.ensures refl

-- Each return is one case of the rule.
use native.Mathlib.Omega.{arith}
use Rattle.bucket_choice.proofs.ChoiceLaws.{named_some}
use Rattle.bucket_test.proofs.AnsweringLaws.{crossed, decided, wide, spent, open_yet}
use Rattle.bucket_test.proofs.answering.first_that_fits.Goals as goal

pub returns-then-interval : goal.returns-then-interval
returns-then-interval c = crossed _ _ _ _ _ _ c.if-interval.true

pub overflow_add-result : goal.overflow_add-result
overflow_add-result c = let h = named_some _ _ c.in-Some.ensures in omega (arith, h, c.requires)

pub returns-in-Some : goal.returns-in-Some
returns-in-Some c = decided _ _ _ _ _ _ c.if-interval.false c.in-Some.ensures

pub returns-then-wide : goal.returns-then-wide
returns-then-wide c = wide _ _ _ _ _ _ c.if-interval.false c.in_default.ensures c.if-wide.true

pub returns-then-spent : goal.returns-then-spent
returns-then-spent c = spent _ _ _ _ _ _ c.if-interval.false c.in_default.ensures c.if-wide.false c.if-spent.true

pub returns : goal.returns
returns c = open_yet _ _ _ _ _ _ c.if-interval.false c.in_default.ensures c.if-wide.false c.if-spent.false

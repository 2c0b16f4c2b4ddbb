-- The plan's refusal, or refusal 8.
use mathlib.Core.Path.{sym}
use Rattle.refusals.proofs.RefusalLaws.{handed_on}
use Rattle.bucket_test.specs.Words.{words_fit}
use Rattle.bucket_test.proofs.DrawingLaws.{begin_plan, begin_words}
use Rattle.bucket_test.proofs.drawing.judge_beginning.Goals as goal

pub returns-in_err-judge : goal.returns-in_err-judge
returns-in_err-judge c =
    handed_on c.from_residual.result _ c.from_residual.ensures.1 (begin_plan _ _ _ c.in_err-judge.ensures)

pub returns : goal.returns
unfolding words_fit
returns c = rw (begin_words c.args.p.now c.args.words.now (sym c.in_ok-judge.ensures), ← c.words_fit.ensures) c.ensure.ensures

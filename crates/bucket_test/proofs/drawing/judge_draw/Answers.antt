-- Past each rule that is kept, the refusal is the first of those left to judge.
use mathlib.Core.Path.{◌≡◌, refl, sym, ap, ◌∙◌}
use mathlib.Core.Bool.{true, not}
use Rattle.walk.specs.Numbers.{le?}
use Rattle.refusals.proofs.RefusalLaws.{kept, broken, handed_on}
use Rattle.plan.proofs.PlaceLaws.{first_one}
use Rattle.bucket_test.specs.Answers.{answer_of, is_ending}
use Rattle.bucket_test.proofs.DrawingLaws.{places, good_plan, long_words, draw_begins, draw_goes_on}
use Rattle.bucket_test.proofs.drawing.judge_draw.Goals.{After-is_ending, In_ok-ensure, In_ok-ensure-2}
use Rattle.bucket_test.proofs.drawing.judge_draw.Goals as goal

pub returns-in_err-judge_beginning : goal.returns-in_err-judge_beginning
returns-in_err-judge_beginning c =
    handed_on c.from_residual.result _ c.from_residual.ensures.1 (draw_begins _ _ _ _ _ c.in_err-judge_beginning.ensures)

-- ---- the rules that were passed, in their order

bit : (c : In_ok-ensure) → le? c.args.d 1 ≡ true
unfolding le?
bit c = kept {b = le? c.args.d 1} refl _ c.in_ok-ensure.ensures

over : (c : After-is_ending) → let a = c.args in not c.is_ending.result ≡ not (is_ending (answer_of a.p.now a.s.now))
over c = ap not (c.is_ending.ensures ∙ ap is_ending c.answer_of.ensures)

going : (c : In_ok-ensure-2) → let a = c.args in not (is_ending (answer_of a.p.now a.s.now)) ≡ true
going c = kept (over (goal.at.In_ok-ensure-2 c).After-is_ending) _ c.in_ok-ensure-2.ensures

pub returns-in_err-ensure : goal.returns-in_err-ensure
unfolding le?
returns-in_err-ensure c =
    let b = broken {b = le? c.args.d 1} refl _ c.in_err-ensure.field-0.0 c.in_err-ensure.ensures in
    rw (draw_goes_on c.args.p.now c.args.s.now c.args.words.now c.args.d c.in_ok-judge_beginning.ensures, b.0)
    (handed_on c.from_residual-in_err-ensure.result _ c.from_residual-in_err-ensure.ensures.1 b.1)

pub answer_of-requires : goal.answer_of-requires
answer_of-requires c = places _ (good_plan _ _ c.in_ok-judge_beginning.ensures)

pub returns-in_err-ensure-2 : goal.returns-in_err-ensure-2
returns-in_err-ensure-2 c =
    let b = broken (over (goal.at.returns-in_err-ensure-2 c).After-is_ending) _ c.in_err-ensure-2.field-0.0 c.in_err-ensure-2.ensures in
    rw (draw_goes_on c.args.p.now c.args.s.now c.args.words.now c.args.d c.in_ok-judge_beginning.ensures, bit (goal.at.returns-in_err-ensure-2 c).In_ok-ensure, b.0)
    (handed_on c.from_residual-in_err-ensure-2.result _ c.from_residual-in_err-ensure-2.ensures.1 b.1)

pub state_sound-requires : goal.state_sound-requires
state_sound-requires c = (good_plan _ _ c.in_ok-judge_beginning.ensures, long_words _ _ c.in_ok-judge_beginning.ensures)

pub returns : goal.returns
returns c =
    rw (draw_goes_on c.args.p.now c.args.s.now c.args.words.now c.args.d c.in_ok-judge_beginning.ensures, bit (goal.at.returns c).In_ok-ensure, going (goal.at.returns c).In_ok-ensure-2, ← c.state_sound.ensures)
    (c.ensure-3.ensures ∙ sym (first_one _))

-- The refusal of the plan bytes, then of the draw under their plan, else the draw.
use Rattle.calls.proofs.BeginLaws.{plan_good, draw_refused, draw_goes_on}
use Rattle.calls.proofs.CallLaws.{first_on, hands_refusal}
use Rattle.calls.proofs.answer_draw.Goals as goal

pub returns-in_err-read_into : goal.returns-in_err-read_into
returns-in_err-read_into c = draw_refused _ _ c.in_err-read_into.ensures _ _ _ _ c.from_residual.ensures.1

pub judge_draw-requires : goal.judge_draw-requires
judge_draw-requires c = plan_good _ _ c.in_ok-read_into.ensures

pub returns-in_err-judge_draw : goal.returns-in_err-judge_draw
returns-in_err-judge_draw c =
    let a = c.args in
    let p = c.read_into.new.plan in
    rw (draw_goes_on _ _ c.in_ok-read_into.ensures a.saved.now a.draw a.lent.now)
    (hands_refusal p _ a.lent.now _ _ (first_on p a.saved.now a.draw a.lent.now _ c.in_err-judge_draw.ensures) _ c.from_residual-in_err-judge_draw.ensures.1)

pub returns : goal.returns
returns c = rw (draw_goes_on _ _ c.in_ok-read_into.ensures c.args.saved.now c.args.draw c.args.lent.now) c.take.ensures

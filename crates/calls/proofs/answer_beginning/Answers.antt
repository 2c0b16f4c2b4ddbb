-- The refusal of the plan bytes, else the call under their plan.
use Rattle.calls.proofs.BeginLaws.{plan_good, begin_refused, begin_goes_on}
use Rattle.calls.proofs.answer_beginning.Goals as goal

pub returns-in_err-p : goal.returns-in_err-p
returns-in_err-p c = begin_refused _ _ c.in_err-p.ensures _ _ c.from_residual.ensures.1

pub begin_on-requires : goal.begin_on-requires
begin_on-requires c = plan_good _ _ c.in_ok-p.ensures

pub returns : goal.returns
returns c = rw (begin_goes_on _ _ c.in_ok-p.ensures c.args.lent.now) c.begin_on.ensures

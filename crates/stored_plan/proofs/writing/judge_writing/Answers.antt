-- The rules of the definition, in its order.
use mathlib.Core.Path.{◌≡◌, refl, sym, ◌∙◌}
use native.Mathlib.Omega.{arith}
use Rattle.walk.specs.Numbers.{le?}
use Rattle.plan.specs.Places.{eq?}
use Rattle.plan.specs.Plan.{plan_refusal}
use Rattle.refusals.proofs.RefusalLaws.{kept}
use Rattle.plan.proofs.PlaceLaws.{first_one}
use Rattle.stored_plan.specs.Writing.{write_refusal}
use Rattle.stored_plan.proofs.Refusals.{stopped}
use Rattle.stored_plan.proofs.writing.judge_writing.Goals as goal

pub returns-in_err-judge : goal.returns-in_err-judge
unfolding write_refusal
returns-in_err-judge c bytes e = stopped _ _ _ c.from_residual.ensures.1 c.in_err-judge.ensures

pub returns-in_err-ensure : goal.returns-in_err-ensure
unfolding write_refusal eq?
returns-in_err-ensure c bytes e =
    let accepted : plan_refusal c.args.p.now ≡ 0 = omega arith in
    rw accepted (stopped _ _ _ c.from_residual-in_err-ensure.ensures.1 c.in_err-ensure.ensures)

pub returns : goal.returns
unfolding write_refusal le? eq?
returns c bytes e =
    let accepted : plan_refusal c.args.p.now ≡ 0 = omega arith in
    rw (accepted, kept refl _ c.in_ok-ensure.ensures)
    (rw (c.form_size.ensures, ← e) at (c.ensure-2.ensures ∙ sym (first_one _)))

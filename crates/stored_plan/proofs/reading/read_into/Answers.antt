-- Past each refusal that is not there, the refusal is the first of those left to judge.
use mathlib.Core.Path.{◌≡◌, refl, sym, ap, ◌∙◌}
use mathlib.Core.Bool.{true}
use native.Mathlib.Omega.{arith}
use lib.ListN.{length}
use Rattle.walk.specs.Numbers.{le?}
use Rattle.plan.specs.Plan.{plan_refusal}
use Rattle.refusals.proofs.RefusalLaws.{number_is, kept, broken}
use Rattle.stored_plan.specs.Form.{header_size}
use Rattle.stored_plan.proofs.Refusals.{short, form-refused, past_form, lent_judged, read_refused, form_says}
use Rattle.stored_plan.proofs.reading.read_into.Goals.{In_ok-ensure}
use Rattle.stored_plan.proofs.reading.read_into.Goals as goal

long : (c : In_ok-ensure) → le? header_size (length c.args.bytes.now) ≡ true
unfolding le?
long c = kept refl _ c.in_ok-ensure.ensures

pub returns-in_err-ensure : goal.returns-in_err-ensure
unfolding le?
returns-in_err-ensure c =
    let b = broken refl _ c.in_err-ensure.field-0.0 c.in_err-ensure.ensures in
    read_refused _ _ _ _ c.from_residual.ensures.1 (short _ b.0 ∙ sym b.1)

pub returns-in_err-judge_form : goal.returns-in_err-judge_form
returns-in_err-judge_form c =
    let d = c.in_err-judge_form.field-0.0 in
    let e = long (goal.at.returns-in_err-judge_form c).In_ok-ensure in
    let q = c.from_residual-in_err-judge_form.ensures.1 in
    read_refused _ _ d _ q (form-refused _ e _ (λ z. omega (arith, number_is d)) c.in_err-judge_form.ensures)

pub plan_into-requires : goal.plan_into-requires
plan_into-requires c = let s = (form_says c.args.bytes.now).0 (sym c.in_ok-judge_form.ensures) in ((s.0.0.1, s.0.1.1, s.1.1), c.requires)

pub returns : goal.returns
returns c =
    let plan = c.plan_into.ensures in
    let form = past_form _ (long (goal.at.returns c).In_ok-ensure) (sym c.in_ok-judge_form.ensures) in
    lent_judged _ _ _ (c.judge.ensures ∙ ap plan_refusal plan ∙ sym form) plan

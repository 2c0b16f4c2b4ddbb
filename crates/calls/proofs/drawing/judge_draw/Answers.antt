-- Past each rule that is kept, the refusal is the first of those left to judge.
use mathlib.Core.Path.{◌≡◌, refl, sym, ap, ◌∙◌}
use mathlib.Core.Bool.{true, not}
use native.Mathlib.Omega.{arith}
use Rattle.walk.specs.Numbers.{le?}
use Rattle.refusals.proofs.RefusalLaws.{kept, broken, handed_on}
use Rattle.plan.proofs.PlaceLaws.{first_one}
use Rattle.plan.proofs.AcceptedLaws.{accepted}
use Rattle.bucket_test.specs.Answers.{answer_of, is_ending}
use Rattle.saved_test.specs.Reading.{state_in, form_fits}
use Rattle.saved_test.proofs.ReadingLaws.{form_long, judgeable, portion_read}
use Rattle.calls.proofs.CallLaws.{past_form}
use Rattle.calls.proofs.drawing.judge_draw.Goals.{After-form_fits, After-has_ended, In_ok-ensure, In_ok-ensure-2, In_ok-ensure-3}
use Rattle.calls.proofs.drawing.judge_draw.Goals as goal

pub form_fits-requires : goal.form_fits-requires
form_fits-requires c = ((accepted _).0 c.requires).count_range.1

-- ---- what was passed, in its order

form : (c : In_ok-ensure) → form_fits c.args.p.now c.args.saved.now ≡ true
form c = kept c.form_fits.ensures _ c.in_ok-ensure.ensures

bit : (c : In_ok-ensure-2) → le? c.args.draw 1 ≡ true
unfolding le?
bit c = kept {b = le? c.args.draw 1} refl _ c.in_ok-ensure-2.ensures

going : (c : In_ok-ensure-3) → let a = c.args in not (is_ending (answer_of a.p.now (state_in a.p.now a.saved.now))) ≡ true
going c = kept (ap not c.has_ended.ensures) _ c.in_ok-ensure-3.ensures

pub read_u32-requires : goal.read_u32-requires
read_u32-requires c = omega (arith, form_long _ _ (form (goal.at.read_u32-requires c).In_ok-ensure))

pub portion_at-portion-requires : goal.portion_at-portion-requires
portion_at-portion-requires c = ((accepted _).0 c.requires).points_sound.few

pub state_sound_in-requires : goal.state_sound_in-requires
state_sound_in-requires c =
    rw (← portion_read _ _ _ _ c.read_u32.ensures.0 c.portion_at-portion.ensures)
    (judgeable _ _ (form (goal.at.state_sound_in-requires c).In_ok-ensure) _ c.requires)

-- ---- what is handed back

pub returns-in_err-ensure-2 : goal.returns-in_err-ensure-2
unfolding le?
returns-in_err-ensure-2 c =
    let a = c.args in
    let b = broken {b = le? a.draw 1} refl _ _ c.in_err-ensure-2.ensures in
    rw (past_form a.p.now a.saved.now a.draw c.requires (form (goal.at.returns-in_err-ensure-2 c).In_ok-ensure), b.0)
    (handed_on c.from_residual-in_err-ensure-2.result _ c.from_residual-in_err-ensure-2.ensures.1 b.1)

pub returns-in_err-ensure-3 : goal.returns-in_err-ensure-3
returns-in_err-ensure-3 c =
    let a = c.args in
    let b = broken (ap not c.has_ended.ensures) _ _ c.in_err-ensure-3.ensures in
    rw (past_form a.p.now a.saved.now a.draw c.requires (form (goal.at.returns-in_err-ensure-3 c).In_ok-ensure), bit (goal.at.returns-in_err-ensure-3 c).In_ok-ensure-2, b.0)
    (handed_on c.from_residual-in_err-ensure-3.result _ c.from_residual-in_err-ensure-3.ensures.1 b.1)

pub returns : goal.returns
returns c =
    let a = c.args in
    rw (past_form a.p.now a.saved.now a.draw c.requires (form (goal.at.returns c).In_ok-ensure), bit (goal.at.returns c).In_ok-ensure-2, going (goal.at.returns c).In_ok-ensure-3, ← c.state_sound_in.ensures (portion_read _ _ _ _ c.read_u32.ensures.0 c.portion_at-portion.ensures))
    (c.ensure-4.ensures ∙ sym (first_one _))

-- The refusals in their order, then the words.
use mathlib.Core.Path.{◌≡◌, refl, sym}
use mathlib.Core.Bool.{true}
use native.Mathlib.Omega.{arith}
use Prim.Native.Nat.{◌*◌, ◌≤◌}
use lib.ListN.{length}
use Rattle.walk.specs.Units.{wide}
use Rattle.refusals.proofs.RefusalLaws.{kept, broken}
use Rattle.plan.specs.Plan.{count_limit, plan_refusal}
use Rattle.plan.proofs.AcceptedLaws.{accepted}
use Rattle.bucket_test.specs.Words.{words_fit}
use Rattle.bucket_test.specs.Draw.{state_sound}
use Rattle.bucket_test.proofs.PartLaws.{words_say}
use Rattle.saved_test.specs.Reading.{form_fits, state_in, words_in, read_refusal}
use Rattle.saved_test.proofs.ReadingLaws.{form_long, form_held, judgeable, portion_read, as_read, read_refused, read_plan, read_none}
use Rattle.saved_test.proofs.reading.read_test.Goals.{In_ok-judge, After-ensure, In_ok-ensure, In_ok-ensure-2, In_ok-ensure-3}
use Rattle.saved_test.proofs.reading.read_test.Goals as goal

-- ---- what was passed, in its order

accepts : (c : In_ok-judge) → plan_refusal c.args.p.now ≡ 0
accepts c = sym c.in_ok-judge.ensures

fits : (c : In_ok-ensure) → words_fit c.args.p.now c.args.words.now ≡ true
unfolding wide words_fit
fits c = kept (as_read refl _) _ c.in_ok-ensure.ensures

form : (c : In_ok-ensure-2) → form_fits c.args.p.now c.args.bytes.now ≡ true
form c = kept c.form_fits.ensures _ c.in_ok-ensure-2.ensures

sound : (c : In_ok-ensure-3) → let a = c.args in state_sound a.p.now (state_in a.p.now a.bytes.now) (words_in a.p.now a.bytes.now) ≡ true
sound c = kept (c.state_sound_in.ensures (portion_read _ _ _ _ c.read_u32.ensures.0 c.portion_at-portion.ensures)) _ c.in_ok-ensure-3.ensures

few : (c : In_ok-judge) → c.args.p.now.count ≤ count_limit
few c = ((accepted _).0 (accepts c)).count_range.1

-- ---- the needs

pub form_fits-requires : goal.form_fits-requires
form_fits-requires c = few (goal.at.form_fits-requires c).In_ok-judge

pub read_u32-requires : goal.read_u32-requires
read_u32-requires c = omega (arith, form_long _ _ (form (goal.at.read_u32-requires c).In_ok-ensure-2))

pub portion_at-portion-requires : goal.portion_at-portion-requires
portion_at-portion-requires c = ((accepted _).0 (accepts (goal.at.portion_at-portion-requires c).In_ok-judge)).points_sound.few

pub state_sound_in-requires : goal.state_sound_in-requires
state_sound_in-requires c =
    rw (← portion_read _ _ _ _ c.read_u32.ensures.0 c.portion_at-portion.ensures)
    (judgeable _ _ (form (goal.at.state_sound_in-requires c).In_ok-ensure-2) _ (accepts (goal.at.state_sound_in-requires c).In_ok-judge))

pub state_in-state-requires : goal.state_in-state-requires
state_in-state-requires c = (few (goal.at.state_in-state-requires c).In_ok-judge, form_long _ _ (form (goal.at.state_in-state-requires c).In_ok-ensure-2))

pub parts_in-requires : goal.parts_in-requires
parts_in-requires c = (few (goal.at.parts_in-requires c).In_ok-judge, (words_say _ _).0 (fits (goal.at.parts_in-requires c).In_ok-ensure), form_held _ _ (form (goal.at.parts_in-requires c).In_ok-ensure-2))

-- ---- what is handed back

pub returns-in_err-judge : goal.returns-in_err-judge
returns-in_err-judge c = read_refused _ _ _ _ _ c.from_residual.ensures.1 (read_plan _ _ _ _ c.in_err-judge.ensures)

pub returns-in_err-ensure : goal.returns-in_err-ensure
unfolding read_refusal words_fit wide
returns-in_err-ensure c =
    let b = broken (as_read {r = length c.args.words.now} refl (wide * c.args.p.now.count)) _ _ c.in_err-ensure.ensures in
    read_refused _ _ _ _ _ c.from_residual-in_err-ensure.ensures.1 (rw (accepts (goal.at.returns-in_err-ensure c).In_ok-judge, b.0) b.1)

pub returns-in_err-ensure-2 : goal.returns-in_err-ensure-2
unfolding read_refusal
returns-in_err-ensure-2 c =
    let b = broken c.form_fits.ensures _ _ c.in_err-ensure-2.ensures in
    read_refused _ _ _ _ _ c.from_residual-in_err-ensure-2.ensures.1
    (rw (accepts (goal.at.returns-in_err-ensure-2 c).In_ok-judge, fits (goal.at.returns-in_err-ensure-2 c).In_ok-ensure, b.0) b.1)

pub returns-in_err-ensure-3 : goal.returns-in_err-ensure-3
unfolding read_refusal
returns-in_err-ensure-3 c =
    let b = broken (c.state_sound_in.ensures (portion_read _ _ _ _ c.read_u32.ensures.0 c.portion_at-portion.ensures)) _ _ c.in_err-ensure-3.ensures in
    read_refused _ _ _ _ _ c.from_residual-in_err-ensure-3.ensures.1
    (rw (accepts (goal.at.returns-in_err-ensure-3 c).In_ok-judge, fits (goal.at.returns-in_err-ensure-3 c).In_ok-ensure, form (goal.at.returns-in_err-ensure-3 c).In_ok-ensure-2, b.0) b.1)

pub returns : goal.returns
unfolding read_refusal
returns c =
    read_none _ _ _
    (rw (accepts (goal.at.returns c).In_ok-judge, fits (goal.at.returns c).In_ok-ensure, form (goal.at.returns c).In_ok-ensure-2, sound (goal.at.returns c).In_ok-ensure-3))
    _ c.state_in-state.ensures _ c.parts_in.ensures

-- The rules of the definition, in its order.
use mathlib.Core.Path.{◌≡◌, sym, ◌∙◌}
use mathlib.Core.Bool.{true}
use Rattle.plan.specs.Places.{eq?}
use Rattle.plan.specs.Plan.{counts_fit}
use Rattle.refusals.proofs.RefusalLaws.{kept}
use Rattle.plan.proofs.PlaceLaws.{first_one}
use Rattle.stored_plan.specs.Reading.{count_in, buckets_in, length_fits, form_refusal}
use Rattle.stored_plan.proofs.Refusals.{stopped}
use Rattle.stored_plan.proofs.reading.judge_form.Goals.{After-ensure, In_ok-ensure, In_ok-ensure-2}
use Rattle.stored_plan.proofs.reading.judge_form.Goals as goal

-- the counts that are judged are the header's
counted : (c : After-ensure) → let bytes = c.args.bytes.now in c.counts_fit-counts.result ≡ counts_fit (count_in bytes) (buckets_in bytes)
unfolding count_in buckets_in
counted c = rw (c.read_u16-count.ensures.0, c.read_u16-buckets.ensures.0) at c.counts_fit-counts.ensures

passed_counts : (c : In_ok-ensure) → let bytes = c.args.bytes.now in counts_fit (count_in bytes) (buckets_in bytes) ≡ true
passed_counts c = kept (counted (goal.at.In_ok-ensure c).After-ensure) _ c.in_ok-ensure.ensures

pub returns-in_err-ensure : goal.returns-in_err-ensure
unfolding form_refusal
returns-in_err-ensure c =
    let counts = counted (goal.at.returns-in_err-ensure c).After-ensure in
    stopped _ _ _ c.from_residual.ensures.1 (rw counts at c.in_err-ensure.ensures)

pub returns-in_err-ensure-2 : goal.returns-in_err-ensure-2
unfolding form_refusal
returns-in_err-ensure-2 c =
    let offsets = rw c.offsets_fit-offsets.ensures at c.in_err-ensure-2.ensures in
    rw (passed_counts (goal.at.returns-in_err-ensure-2 c).In_ok-ensure) (stopped _ _ _ c.from_residual-in_err-ensure-2.ensures.1 offsets)

pub returns : goal.returns
unfolding form_refusal length_fits count_in buckets_in eq?
returns c =
    let in-order = (goal.at.returns c) in
    rw (passed_counts in-order.In_ok-ensure, kept c.offsets_fit-offsets.ensures _ c.in_ok-ensure-2.ensures)
    (rw (c.form_size.ensures, c.read_u16-count.ensures.0, c.read_u16-buckets.ensures.0) at (c.ensure-3.ensures ∙ sym (first_one _)))

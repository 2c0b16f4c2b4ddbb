-- Plan F is its 44 bytes, both ways, and refusals come in their order, 17 for points among them (specs/Trials).
use mathlib.Core.Path.{refl}
use Rattle.walk.specs.Numbers.{le?}
use Rattle.walk.specs.Units.{million, allowance_limit, horizon_limit}
use Rattle.plan.specs.Places.{eq?, all_to, any_to, over_to, join_to}
use Rattle.plan.specs.Plan.{counts_fit, rule1, above_before, rule2, rule3, rule4, permitted, bucket_fits, rule5, covered_above, rule6, plan_refusal}
use Rattle.plan.specs.PlanF.{plan_f}
use Rattle.plan.specs.Trials.{plan_of_points}
use Rattle.little.specs.Little.{to_le, from_le, field, filled}
use Rattle.stored_plan.specs.Form.{bucket_offset, form_size, header, threshold_entries, bucket_entries, encoded}
use Rattle.stored_plan.specs.Reading.{count_in, buckets_in, plan_in, offsets_fit, length_fits, form_refusal, read_refusal, no_plan, decoded}
use Rattle.stored_plan.specs.Writing.{write_refusal, written, bytes_after}
use Rattle.stored_plan.specs.Trials.{plan_f_bytes, damaged, damages, TrialsTheorem}

pub trials : TrialsTheorem
unfolding plan_f plan_of_points plan_f_bytes encoded header threshold_entries bucket_entries bucket_offset form_size to_le from_le field join_to over_to
    filled count_in buckets_in plan_in offsets_fit length_fits form_refusal read_refusal decoded million allowance_limit horizon_limit le?
    eq? all_to any_to counts_fit rule1 above_before rule2 rule3 rule4 permitted bucket_fits rule5 covered_above rule6 plan_refusal damaged damages
    no_plan write_refusal written bytes_after
trials = (refl, refl, refl, refl, refl, refl, refl, refl, refl, refl, refl, refl, refl, refl, refl, refl)

-- The saved forms of the trials have the layout of docs/SAVED.md, in one statement.
use mathlib.Core.Path.{refl}
use Rattle.walk.specs.Numbers.{le?, search_up, eq_z?}
use Rattle.walk.specs.Units.{M, wide, million, mass_limit, allowance_limit, horizon_limit}
use Rattle.walk.specs.Spending.{spending}
use Rattle.walk.specs.Mass.{rounds, round_up, reaching, mass_up, rounding}
use Rattle.walk.specs.Walk.{below, wide?}
use Rattle.walk.specs.Row.{start_row, cells_by, kept, dropped, cut, step_row}
use Rattle.walk.specs.Record.{first_above, row_of, record_of, padded, start_walked, start_part, is_wide}
use Rattle.walk.specs.Soundness.{rounded_fits, boundaries_sound, words_sound}
use Rattle.plan.specs.Places.{eq?, all_to, any_to, largest_to, smallest_to, over_to, join_to}
use Rattle.plan.specs.Plan.{counts_fit, spending_of, rule1, above_before, rule2, rule3, rule4, permitted, bucket_fits, rule5, covered_above, rule6, plan_refusal}
use Rattle.plan.specs.PlanF.{plan_f}
use Rattle.bucket_choice.specs.Choice.{contains, narrower, narrowest, chosen_bucket}
use Rattle.bucket_test.specs.Words.{part_at, words_fit}
use Rattle.bucket_test.specs.Turn.{start_record, marked, walked_on}
use Rattle.bucket_test.specs.Answers.{low_of, high_of, any_wide, answer_by, answer_over}
use Rattle.bucket_test.specs.Draw.{start_state, start_words, begin_refusal, begun_over, state_sound, next_state, next_words, draw_refusal_over, drawn_over}
use Rattle.bucket_test.specs.Carried.{carried_over}
use Rattle.little.specs.Little.{to_le, from_le, field, filled}
use Rattle.saved_test.specs.Form.{record_offset, form_size, counts_between, masses_to, record_bytes, mass_bytes, header, record_entries, mass_entries, saved_form}
use Rattle.saved_test.specs.Reading.{record_from, mass_offset, part_in, state_in, words_in, record_fits, header_fits, form_fits, read_refusal}
use Rattle.saved_test.specs.Trials.{plan_of_two, begun_bytes, one_bytes, zero_bytes, ended_bytes, both_bytes, at_most_bytes, above_bytes, older_bytes, TrialsTheorem}

pub trials : TrialsTheorem
unfolding M wide million mass_limit allowance_limit horizon_limit le? search_up eq_z? spending rounds round_up reaching mass_up rounding below wide? start_row cells_by kept dropped cut
    step_row first_above row_of record_of padded start_walked start_part is_wide rounded_fits boundaries_sound words_sound eq? all_to any_to largest_to smallest_to over_to
    join_to counts_fit spending_of rule1 above_before rule2 rule3 rule4 permitted bucket_fits rule5 covered_above rule6 plan_refusal plan_f contains
    narrower narrowest chosen_bucket part_at words_fit start_record marked walked_on low_of high_of any_wide answer_by answer_over start_state start_words
    begin_refusal begun_over state_sound next_state next_words draw_refusal_over drawn_over carried_over to_le from_le field filled record_offset
    form_size counts_between masses_to record_bytes mass_bytes header record_entries mass_entries saved_form record_from mass_offset part_in state_in words_in record_fits
    header_fits form_fits read_refusal plan_of_two begun_bytes one_bytes zero_bytes ended_bytes both_bytes at_most_bytes above_bytes older_bytes
trials = (
  (refl, refl, refl, refl),
  (refl, refl, refl, refl),
  (refl, refl, refl, refl),
  (refl, refl, refl, refl),
  (refl, refl, refl, refl),
  (refl, refl, refl, refl),
  (refl, refl, refl, refl),
  refl,
)

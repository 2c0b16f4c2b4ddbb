-- P1 to P10, numbers of masses rounded, the narrowest bucket and a plan with points, in one statement.
use mathlib.Core.Path.{refl}
use Rattle.walk.specs.Numbers.{le?, search_up, search_down, eq_z?}
use Rattle.walk.specs.Units.{M, million, wide, mass_limit, allowance_limit, horizon_limit}
use Rattle.walk.specs.Spending.{spending}
use Rattle.walk.specs.Mass.{rounds, round_up, reaching, mass_up, rounding}
use Rattle.walk.specs.Walk.{below, wide?, lower, mass_from, mass_below, upper_boundary, first_live, start, absorbed, step_walk, walk}
use Rattle.walk.specs.Row.{start_row, cells_by, kept, dropped, cut, step_row, rows}
use Rattle.walk.specs.Record.{first_above, row_of, record_of, padded, start_walked, start_part, is_wide}
use Rattle.walk.specs.Soundness.{rounded_fits, boundaries_sound, words_sound}
use Rattle.plan.specs.Places.{eq?, all_to, any_to, largest_to, smallest_to, over_to, join_to}
use Rattle.plan.specs.Points.{point_spending, share_by}
use Rattle.plan.specs.Plan.{counts_fit, spending_of, rule1, above_before, rule2, rule3, rule4, permitted, bucket_fits, rule5, covered_above, rule6, plan_refusal}
use Rattle.bucket_choice.specs.Choice.{contains, narrower, narrowest, chosen_bucket}
use Rattle.bucket_test.specs.Words.{part_at, words_fit}
use Rattle.bucket_test.specs.Turn.{start_record, marked, walked_on}
use Rattle.bucket_test.specs.Answers.{low_of, high_of, any_wide, answer_by, answer_over}
use Rattle.bucket_test.specs.Draw.{start_state, start_words, begin_refusal, begun_over, state_sound, next_state, next_words, draw_refusal_over, drawn_over}
use Rattle.bucket_test.specs.Carried.{carried_over}
use Rattle.plan.specs.PlanF.{plan_f}
use Rattle.plan.specs.Trials.{plan_of_points}
use Rattle.bucket_test.specs.Trials.{computed, printed, TrialsTheorem}

pub trials : TrialsTheorem
unfolding computed printed plan_f spending_of spending walk start step_walk absorbed upper_boundary first_live mass_from mass_below search_up search_down
    lower below mass_up rounding reaching round_up rounds million M wide mass_limit allowance_limit horizon_limit le? eq? all_to any_to largest_to smallest_to
    counts_fit rule1 above_before rule2 rule3 rule4 permitted bucket_fits rule5 covered_above rule6 plan_refusal low_of high_of answer_by answer_over
    contains narrower narrowest chosen_bucket start_record first_above row_of rounded_fits boundaries_sound words_sound plan_of_points point_spending share_by eq_z?
    wide? start_row cells_by kept dropped cut step_row rows record_of padded start_walked start_part is_wide over_to join_to part_at words_fit marked walked_on any_wide
    start_state start_words begin_refusal begun_over state_sound next_state next_words draw_refusal_over drawn_over carried_over
trials = (refl, (refl, (refl, (refl, refl))))

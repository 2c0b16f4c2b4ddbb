-- A refusal, or a beginning that nothing refuses.
use mathlib.Core.Path.{refl, ◌∙◌}
use Rattle.bucket_test.specs.Turn.{start_record}
use Rattle.bucket_test.specs.Draw.{start_state, start_words, no_state}
use Rattle.bucket_test.proofs.DrawingLaws.{places, hands, good_plan, long_words, begun_now, refuses_begin}
use Rattle.bucket_test.proofs.drawing.begin.Goals as goal

pub returns-in-Err : goal.returns-in-Err
unfolding no_state
returns-in-Err c =
    hands (refuses_begin _ _ _ c.in-Err.ensures)
    (c.refused.ensures ∙ rw (c.ten_of.ensures, c.no_walked.ensures)) refl

pub start_words-requires : goal.start_words-requires
start_words-requires c = ((places _ (good_plan _ _ c.in_default.ensures)).0, long_words _ _ c.in_default.ensures)

pub answer_of-requires : goal.answer_of-requires
answer_of-requires c = places _ (good_plan _ _ c.in_default.ensures)

pub returns : goal.returns
unfolding start_state start_record start_words
returns c =
    hands (begun_now _ _ c.in_default.ensures) (rw (c.answer_of.ensures, c.ten_of-state.ensures, c.start_walked.ensures))
    c.start_words.ensures

-- A refusal, or a draw that nothing refuses.
use mathlib.Core.Path.{refl, sym}
use Rattle.bucket_test.proofs.DrawingLaws.{places, hands, drawn_by_lem, refuses_draw, drawable}
use Rattle.bucket_test.proofs.drawing.draw.Goals as goal

pub returns-in-Err : goal.returns-in-Err
returns-in-Err c = hands (refuses_draw _ _ _ _ _ c.in-Err.ensures) c.refused.ensures refl

pub answer_of-requires : goal.answer_of-requires
answer_of-requires c = places _ (drawable _ _ _ _ (sym c.in_default.ensures)).good

pub returns : goal.returns
returns c =
    let t = c.take_one-state.ensures in
    hands (drawn_by_lem _ _ _ _ 0 (sym c.in_default.ensures)) (rw (c.answer_of.ensures, t.0)) t.1

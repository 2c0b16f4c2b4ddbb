-- A plan that is refused, or the answer and the interval.
use mathlib.Core.Path.{sym}
use Rattle.bucket_test.proofs.DrawingLaws.{places, refuses_report, report_0}
use Rattle.bucket_test.proofs.drawing.report_on.Goals as goal

pub returns-in-Err : goal.returns-in-Err
returns-in-Err c = rw c.number.ensures (refuses_report _ _ _ c.in-Err.ensures)

pub answer_of-requires : goal.answer_of-requires
answer_of-requires c = places _ (sym c.in_default.ensures)

pub interval_of-v-requires : goal.interval_of-v-requires
interval_of-v-requires c = (places _ (sym c.in_default.ensures)).0

pub returns : goal.returns
returns c =
    let v = c.interval_of-v.ensures in
    rw (report_0 c.args.p.now c.args.s.now (sym c.in_default.ensures), c.answer_of.ensures, v.0, v.1)

-- The records before place i are read.
use Rattle.saved_test.specs.Reading.{record_in}
use Rattle.saved_test.specs.Form.{record_offset}
use Rattle.bucket_test.proofs.TurningLaws.{record_put}
use Rattle.bucket_test.specs.declared.State.{State}
use Rattle.bucket_test.specs.Turn.{open_record, start_record, no_record}
use Rattle.walk.specs.declared.Walked.{Walked}
use Rattle.plan.specs.Plan.{count_limit}
use Rattle.plan.specs.Places.{over_to}
use lib.ListN.{length, replicate}
use native.Mathlib.Omega.{arith}
use mathlib.Core.Path.{◌≡◌, ap, ◌∙◌}
use borrow.Author.Rules.{rules}
use Rattle.saved_test.proofs.reading.records_in.Goals as goal

pub loop-i-init : goal.loop-i-init
unfolding over_to start_record
loop-i-init c =
    let e =
    ap (λ (s : State). s.records) c.ten_of-start.ensures
    ∙ ap (λ (w : Walked). replicate count_limit (open_record w)) c.start_walked.ensures in
    (omega arith, ap length e, e)

pub loop-i-preserved : goal.loop-i-preserved
unfolding record_offset
loop-i-preserved c =
    let l = c.loop-i in
    let a = c.args in
    (omega arith, search rules, record_put (λ k _. record_in a.bytes.now k) (replicate count_limit start_record) l.records l.i l.invariant.2 no_record _ c.record_in-t.ensures)

pub returns : goal.returns
returns c =
    let l = c.loop-i in
    let n : l.i ≡ c.args.count = omega arith in
    rw (← n) l.invariant.2

-- Past the refusal, the three parts of the form.
use mathlib.Core.Path.{◌≡◌, refl, sym, ◌∙◌}
use Prim.Native.Nat.{◌≤◌}
use native.Mathlib.Omega.{arith}
use lib.ListN.{length}
use Rattle.std.proofs.lemmas.Result.{err_from_is_err_and}
use Rattle.refusals.specs.Refusals.{number_of}
use Rattle.refusals.proofs.RefusalLaws.{number_is}
use Rattle.plan.specs.Plan.{Accepted}
use Rattle.plan.proofs.AcceptedLaws.{accepted}
use Rattle.stored_plan.specs.Form.{bucket_offset, form_size}
use Rattle.stored_plan.specs.Writing.{write_refusal}
use Rattle.stored_plan.proofs.FormLaws.{put_form}
use Rattle.stored_plan.proofs.Refusals.{writable, written_none, written_some}
use Rattle.stored_plan.proofs.writing.write_plan.Goals.{In_ok-judge_writing}
use Rattle.stored_plan.proofs.writing.write_plan.Goals as goal

-- a plan that is not refused keeps its places inside the arrays, and its form inside the bytes
none : (c : In_ok-judge_writing) → let a = c.args in write_refusal a.p.now a.bytes.now ≡ 0
none c = sym (c.in_ok-judge_writing.ensures c.args.bytes.now refl)

fits : (c : In_ok-judge_writing) → let a = c.args in
    Accepted a.p.now × (form_size a.p.now.count a.p.now.buckets ≤ length a.bytes.now)
fits c =
    let a = c.args in
    let w = (writable a.p.now a.bytes.now).0 (none c) in
    ((accepted a.p.now).0 w.0, w.1.1)

pub returns-in_err-judge_writing : goal.returns-in_err-judge_writing
returns-in_err-judge_writing c =
    let a = c.args in
    let d = c.in_err-judge_writing.field-0.0 in
    let p = err_from_is_err_and c.from_residual.result c.from_residual.ensures.1 in
    rw (p.1, p.2) (written_some a.p.now a.bytes.now (number_of d) (λ z. omega (arith, number_is d)) (sym (c.in_err-judge_writing.ensures a.bytes.now refl)))

pub write_header-requires : goal.write_header-requires
unfolding form_size bucket_offset
write_header-requires c = let f = fits (goal.at.write_header-requires c).In_ok-judge_writing in omega arith

pub write_thresholds-requires : goal.write_thresholds-requires
unfolding form_size
write_thresholds-requires c =
    let f = fits (goal.at.write_thresholds-requires c).In_ok-judge_writing in
    (f.0.count_range.1, omega arith)

pub write_buckets-requires : goal.write_buckets-requires
write_buckets-requires c =
    let f = fits (goal.at.write_buckets-requires c).In_ok-judge_writing in
    (f.0.buckets_range.1, omega arith)

pub returns : goal.returns
returns c =
    let a = c.args in
    let w = written_none a.p.now a.bytes.now (none (goal.at.returns c).In_ok-judge_writing) in
    let head = c.write_header.ensures in
    let put = put_form a.p.now a.bytes.now _ _ _ head c.write_thresholds.ensures c.write_buckets.ensures in
    (rw c.form_size.ensures w.0, put ∙ w.1)

-- The records before place i are put.
use Rattle.little.proofs.EntryLaws.{put_start, put_next, put_all}
use Rattle.saved_test.proofs.Sizes.{record_length}
use Rattle.saved_test.specs.Form.{header_size, record_size}
use Rattle.bucket_test.specs.Turn.{no_record}
use lib.ListN.{length, get_or}
use native.Mathlib.Omega.{arith}
use borrow.Author.Rules.{rules}
use Rattle.saved_test.proofs.writing.write_records.Invariants.{entry}
use Rattle.saved_test.proofs.writing.write_records.Goals as goal

pub loop-i-init : goal.loop-i-init
loop-i-init c = put_start (entry c.args.records.now) record_size (λ k. record_length (get_or c.args.records.now k no_record)) header_size (length c.args.records.now) c.args.bytes.now

pub loop-i-preserved : goal.loop-i-preserved
loop-i-preserved c =
    let l = c.loop-i in
    let a = c.args in
    put_next (entry a.records.now) record_size (λ k. record_length (get_or a.records.now k no_record)) header_size (length a.records.now) a.bytes.now l.i l.bytes _ l.invariant
    c.loop-i-test.true (search rules) c.write_record.ensures (omega arith)

pub returns : goal.returns
returns c =
    let l = c.loop-i in
    let a = c.args in
    put_all (entry a.records.now) record_size (λ k. record_length (get_or a.records.now k no_record)) header_size (length a.records.now) a.bytes.now l.i l.bytes l.invariant
    (omega arith)

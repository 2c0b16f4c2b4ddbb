-- The records before place i are put.
use Rattle.little.proofs.EntryLaws.{PutTo}
use Rattle.saved_test.proofs.Sizes.{record_length}
use Rattle.saved_test.specs.Form.{header_size, record_size, record_bytes}
use Rattle.bucket_test.specs.Turn.{no_record}
use lib.ListN.{length, get_or}
use mathlib.Core.List.{List}
use Prim.Native.Nat.{ℕ}
use Rattle.bucket_test.specs.declared.Threshold.{Threshold}
use Rattle.saved_test.proofs.writing.write_records.Given as goal

abbrev pub entry : List Threshold → ℕ → List ℕ
entry records k = record_bytes (get_or records k no_record)

abbrev pub invariant-loop-i : goal.invariant-loop-i
invariant-loop-i l =
    PutTo (entry l.records) record_size (λ k. record_length (get_or l.records k no_record)) header_size (length l.records) l.initial.bytes l.i l.bytes

-- Its three pairs, one behind the other.
use mathlib.Core.List.{◌++◌, append_assoc}
use native.Mathlib.Omega.{arith}
use lib.ListN.{length-append}
use Rattle.little.specs.Little.{to_le}
use Rattle.stored_plan.specs.Form.{header_size, header}
use Rattle.little.proofs.LittleLaws.{to_length}
use Rattle.little.proofs.Putting.{then}
use Rattle.stored_plan.proofs.writing.write_header.Goals as goal

pub returns : goal.returns
unfolding header
returns c =
    let at = c.bucket_offset-at in
    let a = c.args in
    let counts = to_le 2 a.p.now.count ++ to_le 2 a.p.now.buckets in
    let offsets = to_le 2 header_size ++ to_le 2 at.result in
    let times = to_le 4 a.p.now.delay ++ to_le 4 a.p.now.horizon in
    let one = rw c.from.ensures at c.write_two.ensures in
    let two = c.write_two-2.ensures in
    let three = rw c.from-2.ensures at c.write_two-3.ensures in
    let front = then 0 counts offsets a.bytes.now _ _ 4 one two (omega arith) (simp (length-append, to_length)) in
    let whole = then 0 (counts ++ offsets) times a.bytes.now _ _ 8 front three (omega arith) (simp (length-append, to_length)) in
    rw (← at.ensures) (simp append_assoc at whole)

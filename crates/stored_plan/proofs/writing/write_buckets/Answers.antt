-- The counted places of both tables are the entries.
use mathlib.Core.Path.{◌≡◌}
use Prim.Native.Nat.{ℕ, ◌<◌}
use native.Mathlib.Omega.{arith}
use lib.ListN.{length, take, get_or}
use lib.Seq.{length-take-le}
use Rattle.stored_plan.specs.Form.{form_size, bucket_entries}
use Rattle.stored_plan.proofs.FormLaws.{counted_entries}
use Rattle.stored_plan.proofs.writing.write_buckets.Goals as goal

pub write_entries-requires : goal.write_entries-requires
unfolding form_size
write_entries-requires c =
    let p = c.args.p.now in
    let b = p.buckets in
    let many : length (take b p.left) ≡ b = length-take-le b p.left (omega arith) in
    let also : length (take b c.map-right.result) ≡ b = length-take-le b c.map-right.result (omega (arith, c.map-right.ensures.items.long)) in
    (omega arith, omega arith)

pub returns : goal.returns
unfolding bucket_entries
returns c =
    let p = c.args.p.now in
    let b = p.buckets in
    let many : length (take b p.left) ≡ b = length-take-le b p.left (omega arith) in
    let same : (j : ℕ) → j < b → get_or c.map-right.result j 0 ≡ get_or p.right j 0 = λ j l. let called = c.map-right.ensures.items.at j 0 0 (omega arith) in cc in
    rw (c.bucket_offset.ensures, many, counted_entries 4 4 b p.left p.right c.map-right.result same) at c.write_entries.ensures

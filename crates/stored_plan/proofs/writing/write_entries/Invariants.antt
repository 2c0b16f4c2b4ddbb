-- The entries before place n are put, and the numbers from there on are left.
use mathlib.Core.Path.{◌≡◌}
use Prim.Native.Nat.{◌+◌}
use lib.ListN.{length, drop}
use Rattle.std.specs.Iterator.Adapters.{enumerate_source, enumerate_count, zip_first, zip_second}
use Rattle.std.specs.Slice.Iter.{iter_rest}
use Rattle.little.proofs.EntryLaws.{PutTo}
use Rattle.stored_plan.specs.Form.{pair}
use Rattle.stored_plan.proofs.FormLaws.{pair-length}
use Rattle.stored_plan.proofs.writing.write_entries.Given as goal

abbrev pub invariant-loop-i : goal.invariant-loop-i
invariant-loop-i l =
    let both = enumerate_source l.i-iterator in
    let n = enumerate_count l.i-iterator in
    (iter_rest (zip_first both) ≡ drop n l.first) × (iter_rest (zip_second both) ≡ drop n l.second)
    × PutTo (pair 4 l.width l.first l.second) (4 + l.width) (pair-length 4 l.width l.first l.second) l.at (length l.first) l.initial.bytes n l.bytes

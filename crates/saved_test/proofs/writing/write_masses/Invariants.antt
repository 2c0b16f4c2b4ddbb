-- The masses of the thresholds before place i are put.
use Rattle.saved_test.specs.Form.{header_size, record_size, mass_size, live_count, masses_to, mass_bytes}
use Rattle.little.specs.Little.{put_at}
use Rattle.bucket_test.specs.Turn.{no_record}
use Rattle.bucket_test.specs.Words.{part_at}
use Rattle.plan.specs.Places.{join_to}
use lib.ListN.{length, get_or}
use Prim.Native.Nat.{◌+◌, ◌*◌, ◌≤◌}
use mathlib.Core.Path.{◌≡◌}
use Rattle.saved_test.proofs.writing.write_masses.Given as goal

abbrev pub invariant-loop-i : goal.invariant-loop-i
invariant-loop-i l =
    (l.i ≤ length l.records) × (length l.bytes ≡ length l.initial.bytes)
    × (l.bytes ≡ put_at (header_size + record_size * length l.records) (join_to l.i (λ k. mass_bytes (live_count (get_or l.records k no_record)) (part_at k l.words))) l.initial.bytes)
    × (l.at ≡ header_size + record_size * length l.records + mass_size * masses_to (λ k. get_or l.records k no_record) l.i)

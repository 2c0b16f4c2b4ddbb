-- The records looked at so far pass.
use mathlib.Core.Bool.{Bool, false}
use mathlib.Core.List.{List}
use Prim.Native.Nat.{ℕ}
use lib.ListN.{length}
use Rattle.bucket_test.specs.Turn.{record_at, record_sound_at}
use Rattle.plan.specs.declared.Plan.{Plan}
use Rattle.bucket_test.specs.declared.State.{State}
use Rattle.plan.proofs.PlaceLaws.{Sought}
use Rattle.bucket_test.proofs.judging.records_sound.Given as goal

abbrev pub passes : Plan → State → List ℕ → ℕ → Bool
passes p s ws i = record_sound_at p ws s.n s.ones i (record_at s i)

abbrev pub invariant-loop-record : goal.invariant-loop-record
invariant-loop-record l = Sought false (passes l.p l.s l.words) l.p.count (length l.yielded)

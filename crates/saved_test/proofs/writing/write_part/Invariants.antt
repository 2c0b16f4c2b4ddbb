-- The masses before place j are put.
use Rattle.little.specs.Little.{to_le}
use Rattle.little.proofs.LittleLaws.{to_length}
use Rattle.little.proofs.EntryLaws.{PutTo}
use Rattle.saved_test.specs.Form.{mass_size}
use lib.ListN.{get_or}
use mathlib.Core.List.{List}
use Prim.Native.Nat.{ℕ}
use Rattle.saved_test.proofs.writing.write_part.Given as goal

abbrev pub entry : List ℕ → ℕ → List ℕ
entry part j = to_le mass_size (get_or part j 0)

abbrev pub invariant-loop-j : goal.invariant-loop-j
invariant-loop-j l = PutTo (entry l.part) mass_size (λ k. to_length mass_size (get_or l.part k 0)) l.at l.count l.initial.bytes l.j l.bytes

-- The masses before place j are put.
use Rattle.little.proofs.LittleLaws.{to_length}
use Rattle.little.proofs.EntryLaws.{put_start, put_next, put_all}
use Rattle.saved_test.specs.Form.{mass_size, mass_bytes}
use lib.ListN.{get_or}
use lib.Seq.{length-take-le, get_or-take}
use Prim.Native.Nat.{◌<◌}
use native.Mathlib.Omega.{arith}
use borrow.Author.Rules.{rules}
use Rattle.saved_test.proofs.writing.write_part.Invariants.{entry}
use Rattle.saved_test.proofs.writing.write_part.Goals as goal

pub loop-j-init : goal.loop-j-init
loop-j-init c = let a = c.args in put_start (entry a.part.now) mass_size (λ k. to_length mass_size (get_or a.part.now k 0)) a.at a.count a.bytes.now

pub loop-j-preserved : goal.loop-j-preserved
loop-j-preserved c =
    let l = c.loop-j in
    let a = c.args in
    let here : l.j < a.count = rw (length-take-le a.count a.part.now c.requires.0) at c.loop-j-test.true in
    put_next (entry a.part.now) mass_size (λ k. to_length mass_size (get_or a.part.now k 0)) a.at a.count a.bytes.now l.j l.bytes _ l.invariant
    here (search rules) (rw (get_or-take a.count a.part.now l.j 0 here) at c.write_le.ensures) (omega arith)

pub returns : goal.returns
unfolding mass_bytes
returns c =
    let l = c.loop-j in
    let a = c.args in
    put_all (entry a.part.now) mass_size (λ k. to_length mass_size (get_or a.part.now k 0)) a.at a.count a.bytes.now l.j l.bytes l.invariant
    (omega (arith, length-take-le a.count a.part.now c.requires.0))

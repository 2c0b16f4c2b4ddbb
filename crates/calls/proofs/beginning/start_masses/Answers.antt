-- The masses before place i are put.
use native.Mathlib.Omega.{arith}
use Rattle.walk.specs.Units.{M}
use Rattle.little.specs.Little.{to_le}
use Rattle.little.proofs.LittleLaws.{to_length}
use Rattle.little.proofs.EntryLaws.{put_start, put_next, put_all}
use Rattle.saved_test.specs.Form.{mass_size, record_offset}
use borrow.Author.Rules.{rules}
use Rattle.calls.proofs.beginning.start_masses.Goals as goal

pub loop-i-init : goal.loop-i-init
unfolding record_offset
loop-i-init c = let a = c.args in put_start (λ k. to_le mass_size M) mass_size (λ k. to_length mass_size M) (record_offset a.count) a.count a.lent.now

pub write_le-requires : goal.write_le-requires
unfolding record_offset
write_le-requires c = search rules

pub loop-i-preserved : goal.loop-i-preserved
unfolding record_offset M
loop-i-preserved c =
    let l = c.loop-i in
    let a = c.args in
    put_next (λ k. to_le mass_size M) mass_size (λ k. to_length mass_size M) (record_offset a.count) a.count a.lent.now l.i l.lent _ l.invariant c.loop-i-test.true (search rules)
    c.write_le.ensures (omega arith)

pub returns : goal.returns
unfolding M
returns c =
    let l = c.loop-i in
    let a = c.args in
    put_all (λ k. to_le mass_size M) mass_size (λ k. to_length mass_size M) (record_offset a.count) a.count a.lent.now l.i l.lent l.invariant (omega arith)

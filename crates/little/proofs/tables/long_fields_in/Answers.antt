-- The places are filled up to place i.
use mathlib.Core.Path.{ap, ◌∙◌}
use mathlib.Core.List.{List, ◌++◌}
use Prim.Native.Nat.{ℕ}
use native.Mathlib.Omega.{arith}
use lib.ListN.{drop}
use lib.Seq.{length-take-le}
use Rattle.little.specs.Little.{column}
use Rattle.little.proofs.FilledLaws.{fill_none, fill_next, fill_all, filled_part}
use Rattle.little.proofs.tables.long_fields_in.Goals as goal

pub loop-i-init : goal.loop-i-init
loop-i-init c = fill_none _ _ _

pub loop-i-preserved : goal.loop-i-preserved
loop-i-preserved c =
    let l = c.loop-i in
    let many = length-take-le c.args.count c.args.table.now c.requires.0 in
    fill_next _ _ _ l.i l.place-items l.invariant (omega (arith, many, c.loop-i-test.true)) c.read_u64.result c.read_u64.ensures

pub returns : goal.returns
returns c =
    let a = c.args in
    let l = c.loop-i in
    let many = length-take-le a.count a.table.now c.requires.0 in
    ap (λ (xs : List ℕ). xs ++ drop a.count a.table.now) (fill_all _ _ _ l.i l.place-items l.invariant (omega (arith, many, c.loop-i-test.false)))
    ∙ filled_part a.count (column 8 a.at a.stride a.bytes.now) a.table.now

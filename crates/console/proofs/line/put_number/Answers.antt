-- The digits that `io::decimal` gives are those of the number, and at most ten.
use native.Mathlib.Omega.{arith}
use Rattle.console.proofs.Lines.{puts_more, decimal_is}
use Rattle.console.proofs.line.put_number.Goals as goal

pub put-requires : goal.put-requires
put-requires c =
    let d = c.decimal-k in
    let a = c.args in
    let len = rw c.from.ensures at d.ensures.len in
    let digits = rw c.from.ensures at d.ensures.digits in
    let e = decimal_is a.number d.result len d.new.out (omega arith) (omega arith) digits in
    omega (arith, e.0, c.put-next.ensures.behind)

pub returns : goal.returns
returns c =
    let d = c.decimal-k in
    let a = c.args in
    let len = rw c.from.ensures at d.ensures.len in
    let digits = rw c.from.ensures at d.ensures.digits in
    let e = decimal_is a.number d.result len d.new.out (omega arith) (omega arith) digits in
    let p = c.put-next.ensures in
    let q = c.put.ensures in
    (omega (arith, e.0, p.behind, q.behind), rw e.1 at (puts_more (omega arith) p q))

-- One run behind the other.
use native.Mathlib.Omega.{arith}
use Rattle.little.specs.Little.{to_le}
use Rattle.little.proofs.LittleLaws.{to_length}
use Rattle.little.proofs.Putting.{then}
use Rattle.little.proofs.numbers.write_two.Goals as goal

pub returns : goal.returns
returns c =
    let a = c.args in
    let one = rw c.from.ensures at c.write_le.ensures in
    let two = c.write_le-2.ensures in
    let first = to_le a.first a.v in
    then a.at first (to_le a.second a.w) a.bytes.now _ _ _ one two (omega arith) (rw (to_length a.first a.v))

-- What the library makes of the bytes.
use mathlib.Core.Path.{◌≡◌, ◌∙◌}
use native.Mathlib.Omega.{arith}
use Rattle.little.specs.Little.{field}
use Rattle.little.proofs.Library.{read}
use Rattle.little.proofs.numbers.read_u16.Goals as goal

pub returns : goal.returns
returns c =
    let number : c.from.result ≡ field 2 c.args.at c.args.bytes.now =
    c.from.ensures ∙ c.from_le_bytes.ensures ∙ rw c.bytes_at.ensures (read 1 c.args.at c.args.bytes.now c.requires)
    in
    let small = c.from_le_bytes.type_inv in
    (omega (arith, number), omega (arith, c.from.ensures, small))

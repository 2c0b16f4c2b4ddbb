-- What the library makes of the bytes.
use mathlib.Core.Path.{◌∙◌}
use Rattle.little.proofs.Library.{read}
use Rattle.little.proofs.numbers.read_u32.Goals as goal

pub returns : goal.returns
returns c = (c.from_le_bytes.ensures ∙ rw c.bytes_at.ensures (read 3 c.args.at c.args.bytes.now c.requires), c.from_le_bytes.type_inv)

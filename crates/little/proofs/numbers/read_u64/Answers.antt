-- What the library makes of the bytes.
use Rattle.little.proofs.Library.{read}
use Rattle.little.proofs.numbers.read_u64.Goals as goal

pub returns : goal.returns
returns c = rw (c.from_le_bytes.ensures, c.bytes_at.ensures) (read 7 c.args.at c.args.bytes.now c.requires)

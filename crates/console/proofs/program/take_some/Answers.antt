-- The text is what the read gave.
use lib.ListN.{take}
use Rattle.console.proofs.program.take_some.Goals as goal

pub returns : goal.returns
returns g c =
    let r = c.read_some-n in
    (record { text = take r.result r.new.buf; outcome = c.take_chunk.ensures.0 }, r.ensures.given)

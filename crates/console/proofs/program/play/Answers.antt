-- The beginning, the text and the line, one after the other.
use Rattle.std.specs.Io.KnownBytes.{Consumes}
use Rattle.console.proofs.Programs.{plays}
use Rattle.console.proofs.program.play.Goals as goal

pub returns : goal.returns
returns g c =
    let b = c.begin-begun.ensures in
    let read = Consumes (g.R.Read.remaining c.args.input.now) (g.R.Read.remaining c.take_all-last.new.input) in
    let printed = plays read _ _ _ _ _ _ _ _ _ b.0 b.1 c.take_all-last.ensures c.last_line.ensures.upper_bound.1 in
    record { prefix_len = c.last_line.ensures.prefix_len; prints = printed.0; given = printed }

-- The number below a count, raised by k, is the number below that count plus k.
use Rattle.std.proofs.Common.{◌+◌, arith}
use Rattle.walk.specs.Units.{wide}
use Rattle.walk.specs.Record.{first_above}
use Rattle.walk.proofs.Signed.{below_fits, raise_sum, raise_bits}
use Rattle.walk.proofs.Walked.raised.Goals as goal

pub overflow_cast-result : goal.overflow_cast-result
unfolding wide
overflow_cast-result c = record { sfits = omega arith }

pub overflow_add-result : goal.overflow_add-result
overflow_add-result c =
    let f = first_above c.args.self.now.lower in
    rw (raise_sum c.args.self.now.lower f c.requires.0.0 c.requires.0.1 c.args.by c.requires.1) (below_fits (f + c.args.by) (omega arith))

pub returns : goal.returns
returns c = raise_bits c.args.self.now.lower (first_above c.args.self.now.lower) c.requires.0.0 c.requires.0.1 c.args.by c.requires.1

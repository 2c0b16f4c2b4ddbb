-- The lower boundary is the number below the first live count, so the sum is that count.
use Rattle.std.proofs.Common.{nat_abs, ap, arith}
use Rattle.walk.specs.Units.{horizon_limit}
use Rattle.walk.specs.Record.{first_above}
use Rattle.walk.proofs.Signed.{next_sum, next_bits}
use Rattle.walk.proofs.Walked.first.Goals as goal

pub overflow_add-result : goal.overflow_add-result
unfolding horizon_limit
overflow_add-result c = rw (next_sum c.args.self.now.lower (first_above c.args.self.now.lower) c.requires.0 c.requires.1) (record { sfits = omega arith })

pub overflow_cast-result : goal.overflow_cast-result
unfolding horizon_limit
overflow_cast-result c = rw (next_bits c.args.self.now.lower (first_above c.args.self.now.lower) c.requires.0 c.requires.1) (tt, record { fits = omega arith })

pub returns : goal.returns
returns c = ap nat_abs (next_bits c.args.self.now.lower (first_above c.args.self.now.lower) c.requires.0 c.requires.1)

-- The product is below 2^61.
use Rattle.std.proofs.Common.{mul-le-mul, arith}
use Rattle.walk.specs.Units.{million, allowance_limit}
use Rattle.walk.proofs.spending.spending_at.Goals as goal

pub overflow_mul-result : goal.overflow_mul-result
unfolding allowance_limit million
overflow_mul-result c = omega (arith, mul-le-mul c.requires.0 c.requires.1)

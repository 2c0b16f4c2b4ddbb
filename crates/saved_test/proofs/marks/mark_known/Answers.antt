-- By the code.
use native.Mathlib.Omega.{arith}
use Rattle.saved_test.proofs.MarkLaws.{known_open, known_settled, known_none}
use Rattle.saved_test.proofs.marks.mark_known.Goals as goal

pub returns-in-0 : goal.returns-in-0
returns-in-0 c = rw c.in-0.is (known_open c.args.step)

pub returns-in-1 : goal.returns-in-1
returns-in-1 c = known_settled c.args.code c.args.step (omega arith) (omega arith)

pub returns-in_default : goal.returns-in_default
returns-in_default c = known_none c.args.code c.args.step (omega arith)

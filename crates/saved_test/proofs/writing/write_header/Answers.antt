-- The numbers of the header, one behind the other.
use native.Mathlib.Omega.{arith}
use Rattle.walk.specs.Units.{wide}
use Rattle.saved_test.proofs.WritingLaws.{header_put}
use Rattle.saved_test.proofs.writing.write_header.Goals as goal

pub overflow_mul-size : goal.overflow_mul-size
unfolding wide
overflow_mul-size c = omega (arith, c.requires.2)

pub overflow_add-size : goal.overflow_add-size
unfolding wide
overflow_add-size c = omega (arith, c.requires.0, c.requires.2)

pub overflow_cast-size : goal.overflow_cast-size
unfolding wide
overflow_cast-size c =
    omega (arith, c.requires.0, c.requires.2)

pub returns : goal.returns
returns c =
    rw (← c.from.ensures)
    (header_put _ _ _ _ _ _ _ _ _ _ c.write_two.ensures c.write_two-2.ensures
    c.write_two-3.ensures c.write_two-4.ensures c.write_le.ensures)

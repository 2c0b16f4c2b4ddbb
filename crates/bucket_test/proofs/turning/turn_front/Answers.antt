-- By cases on the mark, as `turn`.
use Rattle.bucket_test.specs.Turn.{walked_on}
use Rattle.bucket_test.proofs.TurningLaws.{front_same}
use Rattle.bucket_test.proofs.turning.turn_front.Goals as goal

pub returns-in-Open : goal.returns-in-Open
unfolding walked_on
returns-in-Open c =
    let is = c.advance.ensures.0 in
    rw c.in-Open.is
    (rw (c.walked_on.ensures, is), rw c.walked_on.ensures (front_same _ _ _ is c.advance.ensures.1))

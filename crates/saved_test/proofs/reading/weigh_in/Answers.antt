-- The masses before place i are weighed.
use mathlib.Core.Path.{◌≡◌, sym, ◌∙◌}
use native.Mathlib.Omega.{arith}
use Rattle.walk.specs.Units.{wide}
use Rattle.little.proofs.FilledLaws.{filled-get}
use Rattle.saved_test.proofs.reading.weigh_in.Goals as goal

pub loop-i-init : goal.loop-i-init
loop-i-init c = (omega arith, c.weigh_none-w.ensures _)

pub loop-i-preserved : goal.loop-i-preserved
loop-i-preserved c =
    let l = c.loop-i in (
      omega arith,
      c.weigh_next-w.ensures _ _ (filled-get wide c.args.count _ c.requires.0 l.i (omega arith) ∙ sym c.read_u64.ensures) l.invariant.1,
    )

pub returns : goal.returns
returns c =
    let l = c.loop-i in
    let done : l.i ≡ c.args.count = omega arith in
    rw done at l.invariant.1

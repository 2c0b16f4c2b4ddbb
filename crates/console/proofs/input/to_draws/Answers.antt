-- What is done, with what is still to do, is what was to be done.
use Prim.Native.Nat.{◌<◌}
use native.Mathlib.Omega.{arith}
use lib.ListN.{length}
use Rattle.console.proofs.Characters.{turned_none, turned_skip, turned_draw, turned_counts, turned_all}
use Rattle.console.proofs.input.to_draws.Goals.{then-c-ne-NEWLINE, else-c-ne-NEWLINE}
use Rattle.console.proofs.input.to_draws.Goals as goal

pub loop-i-init : goal.loop-i-init
loop-i-init c = turned_none _

pub loop-i-smaller : goal.loop-i-smaller
loop-i-smaller c = let l = c.loop-i in omega (arith, l.invariant.size)

pub loop-i-preserved : goal.loop-i-preserved
loop-i-preserved c =
    let l = c.loop-i in
    let h : l.i < length c.args.chunk.now = omega (arith, l.invariant.size, c.loop-i-test.true) in
    elim c.if-c-ne-NEWLINE.branch [
      | then-c-ne-NEWLINE w ↦
          rw (w.chunk-is, w.at-is) (turned_draw _ _ _ _ l.invariant h _ w.if-c-ne-NEWLINE.true w.draw_of.ensures)
      | else-c-ne-NEWLINE w ↦ rw (w.chunk-is, w.at-is) (turned_skip _ _ _ _ l.invariant h w.if-c-ne-NEWLINE.false)
    ]

pub returns : goal.returns
returns c =
    let t = c.loop-i.invariant in
    record {
      prefix_len = turned_counts _ _ _ _ t;
      value = turned_all _ _ _ _ t (omega (arith, t.size, c.loop-i-test.false));
    }

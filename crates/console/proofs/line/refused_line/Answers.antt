-- The word, the number and the newline, one behind the other.
use mathlib.Core.Path.{sym}
use Prim.Native.Nat.{◌≤◌}
use native.Mathlib.Omega.{arith}
use lib.ListN.{length}
use lib.Seq.{length-take-le}
use Rattle.console.specs.Line.{refused_line}
use Rattle.console.proofs.Lines.{line_more}
use Rattle.console.proofs.line.refused_line.Goals as goal

pub returns : goal.returns
unfolding refused_line
returns c =
    let w = c.put_word-at.ensures in
    let p = c.put_number-end.ensures in
    let q = c.put.ensures in
    let k : c.put.result ≤ length c.put.new.out = omega arith in
    record {
      prefix_len = (k, sym (length-take-le _ _ k));
      upper_bound = (omega (arith, w.0, p.0, q.behind), line_more (line_more w.1 p.1) q);
    }

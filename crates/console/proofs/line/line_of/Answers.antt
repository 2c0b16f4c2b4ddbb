-- The line by its parts.
use mathlib.Core.Path.{sym}
use Prim.Native.Nat.{◌≤◌}
use native.Mathlib.Omega.{arith}
use lib.ListN.{length}
use lib.Seq.{length-take-le}
use Rattle.console.specs.Line.{values_line, line_of}
use Rattle.console.proofs.Lines.{line_more, values_line_lem}
use Rattle.console.proofs.line.line_of.Goals as goal

pub returns-in-Refused : goal.returns-in-Refused
unfolding line_of
returns-in-Refused c = rw c.in-Refused.is c.refused_line.ensures

pub returns : goal.returns
unfolding values_line
returns c =
    let a = c.args in
    let bucket = c.bucket_of-bucket.ensures in
    let w = c.put_word-at.ensures in
    let p1 = c.put_number-at1.ensures in
    let p2 = c.put_number-at2.ensures in
    let p3 = c.put_number-at3.ensures in
    let p4 = c.put_number-at4.ensures in
    let p5 = c.put_number-at5.ensures in
    let q = c.put.ensures in
    let l2 = line_more (line_more w.1 (rw bucket at p1.1)) p2.1 in
    let l6 = line_more (line_more (line_more (line_more l2 p3.1) p4.1) p5.1) q in
    let line = values_line_lem a.s a.r c.in_default.not-Refused in
    let k : c.put.result ≤ length c.put.new.out = omega arith in
    record {
      prefix_len = (k, sym (length-take-le _ _ k));
      upper_bound = (omega (arith, w.0, p1.0, p2.0, p3.0, p4.0, p5.0, q.behind), rw line l6);
    }

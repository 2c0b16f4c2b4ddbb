-- The word that was chosen is put at the start.
use native.Mathlib.Omega.{arith}
use Rattle.console.proofs.line.put_word.Goals as goal

pub returns : goal.returns
returns c =
    let w = c.word_of.ensures in
    let p = c.put.ensures in
    (omega (arith, w.1, p.behind), rw w.0 at p)

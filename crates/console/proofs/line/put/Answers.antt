-- The bytes stand where they were put, and nothing else is changed.
use mathlib.Core.Path.{refl}
use native.Mathlib.Omega.{arith}
use lib.ListN.{length}
use Rattle.std.proofs.lemmas.Slice.{put_mid-paste}
use Rattle.console.proofs.Lines.{copied}
use Rattle.console.proofs.line.put.Goals as goal

pub returns : goal.returns
returns c =
    let a = c.args in
    copied a.bytes.now a.out.now _ a.at (length a.bytes.now) refl
    (put_mid-paste a.at _ a.out.now _ a.bytes.now _ c.copy_from_slice.ensures.after (omega arith) refl)

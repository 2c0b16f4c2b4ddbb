-- The numbers of a record, one behind the other.
use mathlib.Core.Path.{◌≡◌, ap, ◌∙◌}
use Prim.Native.Nat.{ℕ}
use lib.IntN.{ℤ}
use native.Mathlib.Omega.{arith}
use mir.Syntax.{w32}
use mir.Val.{SFits, of_z, to_z}
use Rattle.std.proofs.lemmas.Int.{ints, clamps, to_z-of_z}
use Rattle.saved_test.proofs.WritingLaws.{record_put}
use borrow.Author.Rules.{rules}
use Rattle.saved_test.proofs.writing.write_record.Goals as goal

-- the bits of z, however it is written
bits_of : (y z : ℤ) {bits : ℕ} → bits ≡ of_z w32 (to_z w32 (of_z w32 y)) → y ≡ z → SFits w32 z → bits ≡ of_z w32 z
bits_of y z e same fits = rw same at e ∙ ap (of_z w32) (to_z-of_z w32 z fits)

pub returns : goal.returns
returns c =
    let t = c.args.t in
    let fits : SFits w32 t.walked.lower = search rules in
    let lower = t.walked.lower in
    let bits = bits_of lower t.walked.lower c.cast_unsigned.ensures (omega (arith, ints, clamps)) fits in
    record_put t c.args.at _ _ _ c.code_of-code.ensures.0 (c.from.ensures ∙ c.code_of-code.ensures.1) bits _ _ _ _ _ _
    c.write_two.ensures (rw c.from-2.ensures at c.write_two-2.ensures) c.write_le.ensures c.write_le-2.ensures (rw c.from-3.ensures at c.write_le-3.ensures) (omega (arith, c.requires))

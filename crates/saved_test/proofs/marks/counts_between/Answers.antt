-- By the sign of the lower boundary.
use mathlib.Core.Path.{◌≡◌}
use Prim.Native.Nat.{ℕ}
use native.Mathlib.Omega.{arith}
use lib.IntN.{ℤ, pos, negsuc, nat_abs, ◌-ℤ◌}
use mir.Syntax.{w32, w64}
use mir.Val.{SFits}
use Rattle.std.specs.Int.{int_max}
use Rattle.std.proofs.lemmas.Int.{ints, clamps, to_z-of_z}
use borrow.Author.Rules.{rules}
use Rattle.saved_test.specs.Form.{counts_between}
use Rattle.saved_test.proofs.marks.counts_between.Goals.{After-max}
use Rattle.saved_test.proofs.marks.counts_between.Goals as goal

between : (lower : ℤ) (upper : ℕ) (r : ℤ) → r ≡ int_max (pos upper -ℤ lower -ℤ pos 1) (pos 0) → nat_abs r ≡ counts_between lower upper
unfolding counts_between
between (pos b) upper r e = omega (arith, ints, clamps)
between (negsuc b) upper r e = omega (arith, ints, clamps)

pub returns : goal.returns
returns c =
    let f : SFits w32 c.args.lower = c.ranges.lower in
    let e : c.max.result ≡ int_max (pos c.args.upper -ℤ c.args.lower -ℤ pos 1) (pos 0) = omega (arith, ints, clamps) in
    (rw (to_z-of_z w64 c.max.result (search rules)) (between c.args.lower c.args.upper _ e), omega (arith, ints, clamps))

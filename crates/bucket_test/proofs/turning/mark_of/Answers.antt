-- Each test is one of the definition's; the lower boundary is read back from its bits.
use mathlib.Core.Path.{◌≡◌}
use mathlib.Core.Bool.{Bool}
use Prim.Native.Nat.{ℕ, ◌<◌, ◌^◌}
use lib.IntN.{ℤ, pos}
use lib.Signed.{le_z}
use mir.Syntax.{w32, w64}
use mir.Val.{SFits, to_z, of_z}
use Rattle.walk.proofs.Tests.{le?_complete, le?_fails}
use Rattle.walk.proofs.Signed.{lower_same, count_same}
use borrow.Author.Rules.{rules}
use Rattle.bucket_test.specs.Turn.{marked}
use Rattle.bucket_test.proofs.turning.mark_of.Goals as goal

-- the test of the code, as the definition has it
under : (s : ℕ) → s < 2 ^ 32 → (z : ℤ) → SFits w32 z → {x y : ℤ} → x ≡ pos s → y ≡ to_z w32 (of_z w32 z) → {b : Bool}
    → le_z (to_z w64 (of_z w64 x)) (to_z w64 (of_z w64 y)) ≡ b → le_z (pos s) z ≡ b
under s small z fits e f h = rw (e, f, count_same s small, lower_same z fits) at h

pub returns-then-ones-w : goal.returns-then-ones-w
unfolding marked
returns-then-ones-w c = rw (le?_complete c.args.w.upper c.args.ones c.if-ones-w.true)

pub returns-then-from : goal.returns-then-from
unfolding marked
returns-then-from c = rw (le?_fails c.args.w.upper c.args.ones c.if-ones-w.false, under c.args.ones c.ranges.ones.fits c.args.w.lower (search rules) c.from.ensures c.from-2.ensures c.if-from.true)

pub returns : goal.returns
unfolding marked
returns c = rw (le?_fails c.args.w.upper c.args.ones c.if-ones-w.false, under c.args.ones c.ranges.ones.fits c.args.w.lower (search rules) c.from.ensures c.from-2.ensures c.if-from.false)

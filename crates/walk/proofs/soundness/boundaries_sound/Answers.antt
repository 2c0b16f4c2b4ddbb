-- The tests of the code are the definition's, in its order; each `&&` joins one more.
use Rattle.std.proofs.Common.{◌≡◌, suc, ◌&&◌, pos, negsuc, ◌-ℤ◌, int_le, int_lt, arith}
use mathlib.Core.Bool.{and_assoc}
use Rattle.std.proofs.lemmas.Int.{ints}
use Rattle.walk.specs.Numbers.{le?, lt?}
use Rattle.walk.specs.Units.{wide}
use Rattle.walk.specs.Soundness.{boundaries_sound}
use Rattle.walk.proofs.soundness.boundaries_sound.Goals.{Joined-ones-w, then-w-geminus1, else-w-geminus1, then-from, else-from, then-apart-ge2, else-apart-ge2, then-apart-le-WIDE_APART, else-apart-le-WIDE_APART, then-from-2, else-from-2, then-ones-w, else-ones-w}
use Rattle.walk.proofs.soundness.boundaries_sound.Goals as goal

module _ (c : Joined-ones-w) where
  to_top : c.if-w-geminus1.value ≡ int_le (negsuc 0) c.args.w.lower && le? c.args.w.upper (suc c.args.n)
  unfolding le?
  to_top = elim c.if-w-geminus1.branch [ then-w-geminus1 w ↦ grind (arith, ints) | else-w-geminus1 w ↦ grind (arith, ints) ]

  two_apart : c.if-from.value ≡ c.if-w-geminus1.value && int_le (pos 2) (pos c.args.w.upper -ℤ c.args.w.lower)
  two_apart = elim c.if-from.branch [ then-from w ↦ grind (arith, ints) | else-from w ↦ grind (arith, ints) ]

  narrow : c.if-apart-ge2.value ≡ c.if-from.value && int_le (pos c.args.w.upper -ℤ c.args.w.lower) (pos 770)
  narrow = elim c.if-apart-ge2.branch [ then-apart-ge2 w ↦ grind (arith, ints) | else-apart-ge2 w ↦ grind (arith, ints) ]

  past_lower : c.if-apart-le-WIDE_APART.value ≡ c.if-apart-ge2.value && int_lt c.args.w.lower (pos c.args.ones)
  past_lower = elim c.if-apart-le-WIDE_APART.branch [ then-apart-le-WIDE_APART w ↦ grind (arith, ints) | else-apart-le-WIDE_APART w ↦ grind (arith, ints) ]

  before_upper : c.if-from-2.value ≡ c.if-apart-le-WIDE_APART.value && lt? c.args.ones c.args.w.upper
  unfolding le?
  before_upper = elim c.if-from-2.branch [ then-from-2 w ↦ grind (arith, ints) | else-from-2 w ↦ grind (arith, ints) ]

  over_fits : c.if-ones-w.value ≡ c.if-from-2.value && le? c.args.w.over c.args.e
  unfolding le?
  over_fits = elim c.if-ones-w.branch [ then-ones-w w ↦ grind (arith, ints) | else-ones-w w ↦ grind (arith, ints) ]

  whole : boundaries_sound c.args.e c.args.n c.args.ones c.args.w ≡ c.if-ones-w.value && le? c.args.w.under c.args.e
  unfolding boundaries_sound wide
  whole = rw (over_fits, before_upper, past_lower, narrow, two_apart, to_top) (simp and_assoc)

pub returns-then-w-e : goal.returns-then-w-e
unfolding le?
returns-then-w-e c = rw (whole (goal.at.returns-then-w-e c).Joined-ones-w, c.if-w-e.true)

pub returns-else-w-e : goal.returns-else-w-e
returns-else-w-e c = rw (whole (goal.at.returns-else-w-e c).Joined-ones-w, c.if-w-e.false)

-- A settled one's step is from 1 to n.
use mathlib.Core.Path.{◌≡◌, sym, ◌∙◌}
use mathlib.Core.Bool.{true}
use mathlib.Core.Logic.{◌⊎◌, inl, inr}
use Prim.Native.Nat.{ℕ}
use Rattle.walk.specs.Soundness.{rounded_fits}
use Rattle.walk.specs.declared.Mark.{Mark}
use Rattle.walk.specs.declared.Mark.TheVariants.{Above, AtMost}
use Rattle.plan.specs.Places.{within}
use Rattle.bucket_test.specs.Turn.{numbers_sound}
use Rattle.bucket_test.specs.declared.Threshold.{Threshold}
use Rattle.bucket_test.proofs.judging.numbers_sound.Goals as goal

settled : (e n S u : ℕ) (m : Mark) (t : Threshold) → (m ≡ Above u) ⊎ (m ≡ AtMost u) → rounded_fits n t.walked ≡ true
    → numbers_sound e n S m t ≡ within 1 n u
settled e n S u m t (inl is) fits = rw (is, fits)
settled e n S u m t (inr is) fits = rw (is, fits)

pub returns-in-Above : goal.returns-in-Above
returns-in-Above c =
    let a = c.args in
    rw (settled a.e a.n a.ones c.in-Above.u a.t.mark a.t c.in-Above.is (sym c.rounded_fits.ensures ∙ c.if-rounded_fits.true)) c.within.ensures

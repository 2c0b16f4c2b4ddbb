-- Laws of refusals (specs/Refusals): what `ensure` and `?` tell of the rules that were judged.
use mathlib.Core.Path.{◌≡◌, refl, sym, ◌∙◌}
use mathlib.Core.Bool.{Bool, true, false}
use Prim.Native.Nat.{ℕ, suc, ◌≤◌}
use native.Mathlib.Omega.{arith}
use Rattle.std.specs.Prelude.{Result}
use Rattle.std.specs.Result.{IsErrAnd}
use Rattle.std.proofs.lemmas.Result.{err_from_is_err_and}
use Rattle.refusals.specs.Refusals.{number_of, refusal_in, unless}
use Rattle.refusals.specs.declared.Refusal.{Refusal}
use Rattle.refusals.specs.declared.Refusal.TheVariants.{Counts, Thresholds, Allowances, Times, Buckets, Cover, Form, Words, Draw, Ended, Spoiled, Room, Run, TooClose, SavedForm, Points, PointsInForm}

-- every refusal has a number
pub number_is : (r : Refusal) → 1 ≤ number_of r
number_is Counts = omega arith
number_is Thresholds = omega arith
number_is Allowances = omega arith
number_is Times = omega arith
number_is Buckets = omega arith
number_is Cover = omega arith
number_is Form = omega arith
number_is Words = omega arith
number_is Draw = omega arith
number_is Ended = omega arith
number_is Spoiled = omega arith
number_is Room = omega arith
number_is Run = omega arith
number_is TooClose = omega arith
number_is SavedForm = omega arith
number_is Points = omega arith
number_is PointsInForm = omega arith

-- a rule b, which code judged by a test x: where nothing refused, it is kept; where something did, it is not, and the number is the rule's
module _ {x b : Bool} (e : x ≡ b) where
  pub kept : (n : ℕ) → 0 ≡ unless x (suc n) → b ≡ true
  kept n h = sym e ∙ go x h
    where
      go : (x : Bool) → 0 ≡ unless x (suc n) → x ≡ true
      go true h = refl
      go false h = absurd (omega (arith, h))

  pub broken : (n : ℕ) (r : Refusal) → number_of r ≡ unless x n → (b ≡ false) × (number_of r ≡ n)
  broken n r h = let g = go x h in (sym e ∙ g.0, g.1)
    where
      go : (x : Bool) → number_of r ≡ unless x n → (x ≡ false) × (number_of r ≡ n)
      go true h = let k = number_is r in absurd (omega (arith, h, k))
      go false h = (refl, h)

-- a refusal that is handed on by `?`
pub handed_on : {A : Type 0} (r : Result A Refusal) (d : Refusal) {n : ℕ} → IsErrAnd r (λ f. f ≡ d) → number_of d ≡ n → refusal_in r ≡ n
handed_on r d h e = let p = err_from_is_err_and r h in rw (p.1, p.2) e

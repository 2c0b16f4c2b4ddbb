-- What the code of src/marks.rt leaves to do: marks by their codes.
use mathlib.Core.Path.{◌≡◌, refl, sym}
use mathlib.Core.Bool.{true, false, or-false}
use Prim.Native.Nat.{ℕ, zero, suc, ◌≤◌, ◌<◌}
use native.Mathlib.Omega.{arith}
use lib.Dec.{eqb}
use Rattle.plan.specs.Places.{eq?}
use Rattle.plan.proofs.PlaceLaws.{eq?_fails}
use Rattle.saved_test.specs.Reading.{mark_known}

pub known_open : (step : ℕ) → eqb step 0 ≡ mark_known 0 step
unfolding eq?
known_open step = sym (or-false (eqb step 0))

pub known_settled : (code step : ℕ) → 1 ≤ code → code < 3 → true ≡ mark_known code step
unfolding eq?
known_settled zero step some few = absurd (omega (arith, some))
known_settled (suc zero) step some few = refl
known_settled (suc (suc zero)) step some few = refl
known_settled (suc (suc (suc code))) step some few = absurd (omega (arith, few))

pub known_none : (code step : ℕ) → 3 ≤ code → false ≡ mark_known code step
known_none code step many = rw (eq?_fails code 0 (λ e. omega arith), eq?_fails code 1 (λ e. omega arith), eq?_fails code 2 (λ e. omega arith))

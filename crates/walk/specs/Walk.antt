-- The walk of one threshold a, as the rules have it (rules 3.2 to 3.7): masses by count, boundaries by search.
use Rattle.std.specs.Prelude.{◌≡◌, ℕ, zero, suc, ◌+◌, ◌<◌, ◌≤◌, Bool, true, false, not, ◌&&◌, ℤ, pos, negsuc, ◌-ℤ◌}
use Rattle.walk.specs.Numbers.{le?, lt?, eq_z?, only, sum_to, search_up, search_down}
use Rattle.walk.specs.Units.{M, wide}
use Rattle.walk.specs.Mass.{mass_up, rounding}

-- The number just below f. A lower boundary is signed and lies just below the first live count: -1 below count 0.
unfoldable pub below : ℕ → ℤ
below zero = negsuc 0
below (suc f) = pos f

-- A walk after a step. The live counts lie strictly between the boundaries: from `first` on and below `upper`.
pub record Walk : Type 0 where
  pub first : ℕ
  pub upper : ℕ
  pub mass : ℕ → ℕ
  -- the upper and the lower spent mass
  pub over : ℕ
  pub under : ℕ
  -- how many new masses were rounded so far
  pub rounded : ℕ

-- a count c is live
abbrev pub is_live : ℕ → ℕ → ℕ → Bool
is_live first upper c = le? first c && lt? c upper

-- the lower boundary
unfoldable pub lower : Walk → ℤ
lower w = below w.first

-- step 0
unfoldable pub start : Walk
start = record { first = 0; upper = 1; mass = λ c. only (le? c 0) M; over = 0; under = 0; rounded = 0 }

-- the old mass at the count before
abbrev pub previous : (ℕ → ℕ) → ℕ → ℕ
previous g zero = 0
previous g (suc c) = g c

-- a number for each count, made of the old masses there and at the count before
abbrev pub cellwise : (ℕ → ℕ → ℕ) → (ℕ → ℕ) → ℕ → ℕ
cellwise cell g c = cell (g c) (previous g c)

-- the new masses, by count (rules 3.3)
abbrev pub new_mass : ℕ → (ℕ → ℕ) → ℕ → ℕ
new_mass a g = cellwise (mass_up a) g

-- 1 where a new mass was rounded, else 0, by count; none is past count t of step t (specs/Facts, `none_rounded`, `top`)
abbrev pub new_rounding : ℕ → (ℕ → ℕ) → ℕ → ℕ
new_rounding a g = cellwise (rounding a) g

-- of the new masses of step t, which are 0 past count t (specs/Facts, `new_off`, `top`): those at counts ≥ j; those at counts < f, which are
-- the counts ≤ f - 1
unfoldable pub mass_from : ℕ → (ℕ → ℕ) → ℕ → ℕ
mass_from t g j = sum_to (suc t) (λ c. only (le? j c) (g c))

unfoldable pub mass_below : ℕ → (ℕ → ℕ) → ℕ → ℕ
mass_below t g f = sum_to (suc t) (λ c. only (lt? c f) (g c))

-- with e = E(t), the new masses g and the upper spent mass: j may be the upper boundary; the smallest such j from 1 to t + 1 (rules 3.4)
abbrev pub FitsUpper : ℕ → ℕ → (ℕ → ℕ) → ℕ → ℕ → Type 0
FitsUpper t e g over j = mass_from t g j + over ≤ e

unfoldable pub upper_boundary : ℕ → ℕ → (ℕ → ℕ) → ℕ → ℕ
upper_boundary t e g over = search_up t 1 (λ j. le? (mass_from t g j + over) e)

-- f - 1 may be the lower boundary; the largest such f - 1 from -1 to t (rules 3.5)
abbrev pub FitsLower : ℕ → ℕ → (ℕ → ℕ) → ℕ → ℕ → Type 0
FitsLower t e g under f = mass_below t g f + under ≤ e

unfoldable pub first_live : ℕ → ℕ → (ℕ → ℕ) → ℕ → ℕ
first_live t e g under = search_down (suc t) (λ f. le? (mass_below t g f + under) e)

-- masses at or beyond a boundary join that side's spent mass (rules 3.6); each new mass that was rounded counts, whether it meets a boundary or not
unfoldable pub absorbed : ℕ → (ℕ → ℕ) → (ℕ → ℕ) → ℕ → ℕ → Walk → Walk
absorbed t g roundingAt first upper w = record {
  first = first;
  upper = upper;
  mass = λ c. only (is_live first upper c) (g c);
  over = w.over + mass_from t g upper;
  under = w.under + mass_below t g first;
  rounded = w.rounded + sum_to (suc t) roundingAt;
}

-- step t, with e = E(t)
unfoldable pub step_walk : ℕ → ℕ → ℕ → Walk → Walk
step_walk a e t w =
    absorbed t (new_mass a w.mass) (new_rounding a w.mass)
    (first_live t e (new_mass a w.mass) w.under)
    (upper_boundary t e (new_mass a w.mass) w.over)
    w

-- the walk of the threshold a with the spending E, after step n
unfoldable pub walk : ℕ → (ℕ → ℕ) → ℕ → Walk
walk a E zero = start
walk a E (suc n) = step_walk a (E (suc n)) (suc n) (walk a E n)

-- its first live count and its upper boundary after step n
unfoldable pub first_at : ℕ → (ℕ → ℕ) → ℕ → ℕ
first_at a E n = (walk a E n).first

unfoldable pub upper_at : ℕ → (ℕ → ℕ) → ℕ → ℕ
upper_at a E n = (walk a E n).upper

-- wide, of any two boundaries: upper - lower - 1 is 769
unfoldable pub wide? : ℕ → ℤ → Bool
wide? upper lower = eq_z? (pos upper -ℤ lower) (pos (suc wide))

-- no step before n is wide: n is not past the first wide step
unfoldable pub NoWideBefore : ℕ → (ℕ → ℕ) → ℕ → Type 0
NoWideBefore a E n = (t : ℕ) → t < n → wide? (walk a E t).upper (lower (walk a E t)) ≡ false

-- the same as a test that computes (proofs/Chances, `narrow_says`)
unfoldable pub no_wide_before? : ℕ → (ℕ → ℕ) → ℕ → Bool
no_wide_before? a E zero = true
no_wide_before? a E (suc n) = no_wide_before? a E n && not (wide? (walk a E n).upper (lower (walk a E n)))

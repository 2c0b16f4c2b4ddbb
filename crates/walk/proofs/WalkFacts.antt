-- The facts of the walk: of one step from any sound row, and of the walk at every step.
use Rattle.std.proofs.Common.{◌≡◌, ℕ, zero, suc, ◌+◌, ◌-◌, ◌<◌, ◌≤◌, ◌⊎◌, get_or, pos, ◌-ℤ◌, ◌≤ℤ◌, ap, ◌∙◌, inl, inr, arith, le→leb}
use lib.Signed.{le_z_yes}
use Rattle.walk.specs.Numbers.{le?, Smallest, Largest}
use Rattle.walk.specs.Units.{M, million}
use Rattle.walk.specs.Spending.{IsSpending}
use Rattle.walk.specs.Mass.{mass_up, rounding}
use Rattle.walk.specs.Walk.{below, lower, cellwise, new_mass, FitsUpper, FitsLower, absorbed, step_walk, walk}
use Rattle.walk.specs.Row.{total, by_count, rows}
use Rattle.walk.specs.Strings.{Upper, Lower}
use Rattle.walk.specs.Facts.{as_walk, StepTheorem, mass_of, WalkTheorem}
use Rattle.walk.proofs.Tests.{only_le}
use Rattle.walk.proofs.Lists.{all_get_d}
use Rattle.walk.proofs.Rounding.{mass_none, rounding_none}
use Rattle.walk.proofs.Boundaries.{below_rises, apart_below}
use Rattle.walk.proofs.RowSteps.{allowed_next, next_moves, next_sound, rows_sound, rows_move, rows-total, rows_small, rounded_few}
use Rattle.walk.proofs.Agreement.{at_off, at_live, upper_exists, lower_exists, upper_is, lower_is, step_same, same_as_walk, same, not_wide}
use Rattle.walk.proofs.Chances.{spent_fits}

pub step_facts : StepTheorem
step_facts a threshold E spends n r s =
    let allowed = allowed_next a threshold E spends n r s in
    let half = spends.half (suc n) in (
      record {
        upper_is = upper_is a threshold (E (suc n)) half n r allowed s.top;
        lower_is = lower_is a threshold (E (suc n)) half n r allowed s.top;
        same = step_same a threshold (E (suc n)) half n r allowed s.top;
        sound = (next_sound a threshold E spends n r s).sound;
        moves = next_moves a threshold E spends n r s;
      },
      next_sound a threshold E spends n r s,
    )

-- the boundaries of the next step of the walk
upper_next : (a : ℕ) (E : ℕ → ℕ) (n : ℕ) → (walk a E n).over ≤ E (suc n)
    → Smallest (FitsUpper (suc n) (E (suc n)) (new_mass a (walk a E n).mass) (walk a E n).over) 1 (1 + suc n) (walk a E (suc n)).upper
unfolding walk step_walk absorbed
upper_next a E n h = upper_exists (suc n) (E (suc n)) (new_mass a (walk a E n).mass) (walk a E n).over h

lower_next : (a : ℕ) (E : ℕ → ℕ) (n : ℕ) → (walk a E n).under ≤ E (suc n)
    → Largest (FitsLower (suc n) (E (suc n)) (new_mass a (walk a E n).mass) (walk a E n).under) 0 (suc (suc n)) (walk a E (suc n)).first
unfolding walk step_walk absorbed
lower_next a E n h = lower_exists (suc n) (E (suc n)) (new_mass a (walk a E n).mass) (walk a E n).under h

far_enough : (u f : ℕ) → f < u → pos 2 ≤ℤ (pos u -ℤ below f)
far_enough u f h = rw (apart_below u f (omega arith)) (le_z_yes (le→leb 2 (suc (u - f)) (omega arith)))

-- live mass plus both spent masses, in both forms
mass_total : (a : ℕ) → a ≤ million → (E : ℕ → ℕ) → IsSpending E → (n : ℕ) → mass_of (walk a E n) ≡ total (rows a E n)
unfolding as_walk
mass_total a threshold E spends n =
    ap mass_of (same_as_walk (walk a E n) (rows a E n) (same a threshold E spends n))
    ∙ ap (λ (x : ℕ). x + (rows a E n).over + (rows a E n).under) (at_live (rows a E n).first (rows a E n).masses)

-- masses at the counts from f on and below u make new numbers at the counts from f to u only
cells_off : (cell : ℕ → ℕ → ℕ) → cell 0 0 ≡ 0 → (g : ℕ → ℕ) (f u : ℕ) → ((c : ℕ) → (c < f) ⊎ (u ≤ c) → g c ≡ 0)
    → (c : ℕ) → (c < f) ⊎ (u < c) → cellwise cell g c ≡ 0
cells_off cell none g f u off zero (inl h) = rw (off 0 (inl h)) none
cells_off cell none g f u off zero (inr h) = absurd (omega arith)
cells_off cell none g f u off (suc c) (inl h) = rw (off (suc c) (inl h), off c (inl (omega arith))) none
cells_off cell none g f u off (suc c) (inr h) = rw (off (suc c) (inr (omega arith)), off c (inr (omega arith))) none

pub walk_facts : WalkTheorem
unfolding lower by_count as_walk
walk_facts a threshold E spends n =
    let s = same a threshold E spends n in
    let s' = same a threshold E spends (suc n) in
    let m = rows_move a threshold E spends n in
    let r = rows_sound a threshold E spends n in
    let off : (c : ℕ) → (c < (walk a E n).first) ⊎ ((walk a E n).upper ≤ c) → (walk a E n).mass c ≡ 0 =
    rw (same_as_walk (walk a E n) (rows a E n) s) (at_off (rows a E n).first (rows a E n).masses) in
    record {
      upper_is = upper_next a E n (omega (arith, spent_fits a threshold E spends Upper n, spends.rises n));
      lower_is = lower_next a E n (omega (arith, spent_fits a threshold E spends Lower n, spends.rises n));
      apart = far_enough (walk a E n).upper (walk a E n).first (omega (arith, s.first_same, s.upper_same, r.sound.live));
      top = omega (arith, s.upper_same, r.top);
      upper_slow = omega (arith, s.upper_same, s'.upper_same, m.upper_slow);
      lower_rises = below_rises (walk a E n).first (walk a E (suc n)).first (omega (arith, s.first_same, s'.first_same, m.lower_rises));
      allowed = λ side. spent_fits a threshold E spends side n;
      no_less = omega (arith, mass_total a threshold E spends n, r.sound.full);
      adds = omega (arith, mass_total a threshold E spends n, rows-total a threshold E spends n, s.rounded_same);
      few = λ none. omega (arith, s.rounded_same, rounded_few a threshold E spends n ((not_wide a threshold E spends n).0 none));
      no_more = λ none. omega (
        arith,
        mass_total a threshold E spends n,
        rows-total a threshold E spends n,
        rounded_few a threshold E spends n ((not_wide a threshold E spends n).0 none),
      );
      off = off;
      new_off = cells_off (mass_up a) (mass_none a) (walk a E n).mass (walk a E n).first (walk a E n).upper off;
      none_rounded = cells_off (rounding a) (rounding_none a) (walk a E n).mass (walk a E n).first (walk a E n).upper off;
      small = λ c. omega (
        arith,
        s.mass_same c,
        only_le (le? (rows a E n).first c) (get_or (rows a E n).masses (c - (rows a E n).first) 0),
        all_get_d M (rows a E n).masses (rows_small a threshold E spends n) (c - (rows a E n).first),
      );
    }

-- Lower boundaries, which are signed: the number below a count, and what the code's casts and tests make of it.
use Rattle.std.proofs.Common.{◌≡◌, ℕ, zero, suc, ◌+◌, ◌-◌, ◌^◌, ◌<◌, ◌≤◌, eqb, ℤ, pos, negsuc, ◌+ℤ◌, refl, ap, ◌∙◌, add-one, arith, w32, w64, SFits, to_z, of_z, le-ltb, ne_eqb}
use lib.Signed.{mag}
use mir.ValLaws.{to_z-of_z, to_z_pos}
use Rattle.walk.specs.Numbers.{eq_z?}
use Rattle.walk.specs.Units.{horizon_limit, wide}
use Rattle.walk.specs.Walk.{below}

below_next : (f : ℕ) → below f +ℤ pos 1 ≡ pos f
unfolding below
below_next zero = refl
below_next (suc f) = ap pos (add-one f)

below_raise : (f k : ℕ) → below f +ℤ pos k ≡ below (f + k)
unfolding below
below_raise zero zero = refl
below_raise zero (suc k) =
    let e : 0 + suc k ≡ suc k = omega arith in
    let f : suc k - 1 ≡ k = omega arith in
    let t : 1 ≤ suc k = omega arith in
    rw (e, le-ltb (suc k) 1, f)
below_raise (suc n) k =
    let e : suc n + k ≡ suc (n + k) = omega arith in
    rw e

below_mag : (f : ℕ) → mag (below f) ≤ f
unfolding below
below_mag zero = omega arith
below_mag (suc n) = omega arith

pub below_fits : (f : ℕ) → f ≤ suc horizon_limit + wide → SFits w32 (below f)
unfolding horizon_limit wide
below_fits f h = record { sfits = omega (arith, below_mag f) }

-- `lower + 1` and `lower + by`, with lower the number below f
module _ (z : ℤ) (f : ℕ) (is : z ≡ below f) (early : f ≤ suc horizon_limit) where
  pub back : to_z w32 (of_z w32 z) ≡ z
  back = to_z-of_z w32 z (rw is (below_fits f (omega arith)))

  pub next_sum : to_z w32 (of_z w32 z) +ℤ pos 1 ≡ pos f
  next_sum = rw (back, is) (below_next f)

  pub next_bits : to_z w32 (of_z w32 (to_z w32 (of_z w32 z) +ℤ pos 1)) ≡ pos f
  unfolding horizon_limit
  next_bits = rw next_sum (to_z_pos w32 f (omega arith))

  module _ (k : ℕ) (near : k ≤ wide) where
    pub raise_sum : to_z w32 (of_z w32 z) +ℤ to_z w32 k ≡ below (f + k)
    unfolding wide
    raise_sum = rw (back, to_z_pos w32 k (omega arith), is) (below_raise f k)

    pub raise_bits : to_z w32 (of_z w32 (to_z w32 (of_z w32 z) +ℤ to_z w32 k)) ≡ below (f + k)
    raise_bits = rw raise_sum (to_z-of_z w32 (below (f + k)) (below_fits (f + k) (omega arith)))

-- ---- boundaries in 64 bits

pub count_same : (u : ℕ) → u < 2 ^ 32 → to_z w64 u ≡ pos u
count_same u small = to_z_pos w64 u (omega arith)

module _ (z : ℤ) (fits : SFits w32 z) where
  pub lower_fits : SFits w64 (to_z w32 (of_z w32 z))
  lower_fits = rw (to_z-of_z w32 z fits) (record { sfits = omega (arith, fits.sfits) })

  pub lower_same : to_z w64 (of_z w64 (to_z w32 (of_z w32 z))) ≡ z
  lower_same = to_z-of_z w64 (to_z w32 (of_z w32 z)) lower_fits ∙ to_z-of_z w32 z fits

-- a number that equals 770, as it is read from its bits
pub eq_bits : (z : ℤ) (n : ℕ) → SFits w64 z → n < 2 ^ 63 → eqb (of_z w64 z) n ≡ eq_z? z (pos n)
unfolding eq_z?
eq_bits (pos m) n s h = refl
eq_bits (negsuc m) n s h = ne_eqb (2 ^ 64 - suc m) n (λ e. omega (arith, s.sfits))

-- Rounding up, and one new mass.
use Rattle.std.proofs.Common.{◌≡◌, ℕ, suc, ◌+◌, ◌-◌, ◌*◌, ◌/◌, ◌%◌, ◌≤◌, Bool, true, false, sym, refl, ap, ◌∙◌, mul-le-mul_right, mul-add, arith}
use Rattle.walk.specs.Numbers.{lt?, only}
use Rattle.walk.specs.Units.{million, mass_limit}
use Rattle.walk.specs.Mass.{rounds, round_up, reaching, mass_up, rounding}
use Rattle.walk.specs.MassLine.{word_end, almost_one, MassLineTheorem}
use Rattle.walk.proofs.Tests.{test, Le?, le, gt, only_le, only_fails}

-- the addition before the division
pub round_up_is : (x : ℕ) → (x + 999999) / 1000000 ≡ round_up x
unfolding round_up rounds million
round_up_is x = go (lt? 0 (x % 1000000)) (test 1 (x % 1000000))
  where
    go : (b : Bool) → Le? 1 (x % 1000000) b → (x + 999999) / 1000000 ≡ x / 1000000 + only b 1
    go true (le h) = omega arith
    go false (gt h) = omega arith

-- what is rounded up is more than it was
pub round_tells : (x : ℕ) → only (lt? x (round_up x * million)) 1 ≡ rounds x
unfolding round_up rounds million
round_tells x = go (lt? 0 (x % 1000000)) (test 1 (x % 1000000)) _ (test (suc x) _)
  where
    go : (b : Bool) → Le? 1 (x % 1000000) b → (t : Bool) → Le? (suc x) ((x / 1000000 + only b 1) * 1000000) t → only t 1 ≡ only b 1
    go true (le h) true q = refl
    go true (le h) false (gt q) = absurd (omega arith)
    go false (gt h) true (le q) = absurd (omega arith)
    go false (gt h) false q = refl

-- nothing is lost, and a rounding adds less than a unit
pub round_ge : (x : ℕ) → x ≤ round_up x * million
unfolding million
round_ge x = rw (← (round_up_is x)) (omega arith)

pub round_le : (x : ℕ) → round_up x * million ≤ x + rounds x * million
unfolding round_up rounds million
round_le x = go (lt? 0 (x % 1000000)) (test 1 (x % 1000000))
  where
    go : (b : Bool) → Le? 1 (x % 1000000) b → (x / 1000000 + only b 1) * 1000000 ≤ x + only b 1 * 1000000
    go true (le h) = omega arith
    go false (gt h) = omega arith

pub rounds_le : (x : ℕ) → rounds x ≤ 1
unfolding rounds
rounds_le x = only_le (lt? 0 (x % million)) 1

-- ---- one new mass of the threshold a

pub whole_threshold : (x a : ℕ) → a ≤ million → x * (million - a) + x * a ≡ x * million
whole_threshold x a h =
    let e : million - a + a ≡ million = omega arith in
    sym (mul-add x (million - a) a) ∙ ap (λ (y : ℕ). x * y) e

pub mass_none : (a : ℕ) → mass_up a 0 0 ≡ 0
unfolding mass_up reaching
mass_none a = let e : 0 * (million - a) + 0 * a ≡ 0 = omega arith in rw (e, ← (round_up_is 0))

pub rounding_none : (a : ℕ) → rounding a 0 0 ≡ 0
unfolding rounding reaching rounds million
rounding_none a = let e : 0 * (1000000 - a) + 0 * a ≡ 0 = omega arith in rw e (only_fails 1 (0 % 1000000) 1 (omega arith))

module _ (a stay come : ℕ) where
  pub mass_ge : reaching a stay come ≤ mass_up a stay come * million
  unfolding mass_up
  mass_ge = round_ge (reaching a stay come)

  pub mass_le : mass_up a stay come * million ≤ reaching a stay come + rounding a stay come * million
  unfolding mass_up rounding
  mass_le = round_le (reaching a stay come)

  pub rounding_le : rounding a stay come ≤ 1
  unfolding rounding
  rounding_le = rounds_le (reaching a stay come)

  -- no more than the larger of the two old masses
  module _ (threshold : a ≤ million) (b : ℕ) (hs : stay ≤ b) (hc : come ≤ b) where
    pub reaching_small : reaching a stay come ≤ b * million
    unfolding reaching
    reaching_small = omega (arith, whole_threshold b a threshold, mul-le-mul_right (million - a) hs, mul-le-mul_right a hc)

    pub mass_small : mass_up a stay come ≤ b
    unfolding mass_up million
    mass_small = rw (← (round_up_is (reaching a stay come))) (omega (arith, reaching_small))

-- the line: what it divides is at most 2^43 × 1,000,000 + 999,999
pub mass_line_lem : MassLineTheorem
unfolding word_end almost_one million mass_limit mass_up rounding reaching
mass_line_lem a stay come threshold hs hc =
    let small = reaching_small a stay come threshold mass_limit hs hc in
    record {
      stay_fits = omega (arith, small);
      come_fits = omega (arith, small);
      sum_fits = omega (arith, small);
      rounded_up = record {
        from = omega arith;
        to = omega (arith, small);
        holds = omega arith;
        first = λ (units : ℕ) lo hi no_less. omega (arith, no_less);
      };
      same = omega (arith, round_up_is (reaching a stay come));
      units_fit = omega (arith, small);
      tells = rw (round_up_is (stay * (1000000 - a) + come * a)) (round_tells (stay * (1000000 - a) + come * a));
    }

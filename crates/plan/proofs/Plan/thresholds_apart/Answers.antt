-- The neighbours passed differ enough, and `before` is the last threshold passed.
use mathlib.Core.Path.{◌≡◌, sym, ◌∙◌}
use mathlib.Core.Bool.{false}
use mathlib.Core.List.{◌∷◌}
use Prim.Native.Nat.{suc, ◌<◌}
use native.Mathlib.Numerals.{add-one}
use native.Mathlib.Omega.{arith}
use lib.ListN.{get_or, take}
use Rattle.walk.proofs.Tests.{le?_complete, le?_fails}
use Rattle.plan.specs.Places.{all_to}
use Rattle.plan.specs.Plan.{threshold_at}
use Rattle.plan.proofs.PlaceLaws.{sought_none, sought_next, sought_here, sought_nowhere}
use Rattle.plan.proofs.PlaceLists.{taken_at, taken_all}
use Rattle.plan.proofs.Plan.thresholds_apart.Goals.{In-Some, After-saturating_sub}
use Rattle.plan.proofs.Plan.thresholds_apart.Goals as goal

-- the counted thresholds are the first and the others
counted : (c : In-Some) → c.in-Some.first.now ∷ c.in-Some.others.now ≡ take c.args.self.now.count c.args.self.now.thresholds
counted c = sym c.in-Some.ensures.cases.0 ∙ c.counted_thresholds.ensures

-- the threshold whose turn it is
here : (c : After-saturating_sub) → let p = c.args.self.now in let i = c.loop-t.t-index in
    (suc i < p.count) × (get_or c.in-Some.others.now i 0 ≡ threshold_at p (suc i))
here c =
    let p = c.args.self.now in
    taken_at p.thresholds p.count 0 (counted (goal.at.After-saturating_sub c).In-Some) (suc c.loop-t.t-index) (omega (arith, c.loop-t-test.true))

pub returns-in_default : goal.returns-in_default
unfolding all_to
returns-in_default c =
    let p = c.args.self.now in
    let none : p.count ≡ 0 = omega (arith, taken_all p.thresholds p.count 0 c.counted_thresholds.ensures (omega arith), c.in_default.ensures.cases) in
    rw none

pub loop-t-init : goal.loop-t-init
loop-t-init c =
    let p = c.args.self.now in record {
      before_is = (taken_at p.thresholds p.count 0 (counted (goal.at.loop-t-init c).In-Some) 0 (omega arith)).1;
      apart = sought_none false _;
    }

pub returns-then-saturating_sub-lt-LEAST_DIFFERENCE : goal.returns-then-saturating_sub-lt-LEAST_DIFFERENCE
returns-then-saturating_sub-lt-LEAST_DIFFERENCE c =
    let v = c.loop-t.invariant in
    let h = here (goal.at.returns-then-saturating_sub-lt-LEAST_DIFFERENCE c).After-saturating_sub in
    sought_here false _ v.apart (omega (arith, h.0))
    (le?_fails _ _ (omega (arith, h.1, v.before_is, c.saturating_sub.ensures, c.if-saturating_sub-lt-LEAST_DIFFERENCE.true)))

pub loop-t-preserved : goal.loop-t-preserved
loop-t-preserved c =
    let v = c.loop-t.invariant in
    let h = here (goal.at.loop-t-preserved c).After-saturating_sub in record {
      before_is = rw (add-one c.loop-t.t-index) h.1;
      apart = sought_next false _ v.apart (omega (arith, h.0))
          (le?_complete _ _ (omega (arith, h.1, v.before_is, c.saturating_sub.ensures, c.if-saturating_sub-lt-LEAST_DIFFERENCE.false)));
    }

pub returns : goal.returns
returns c =
    let p = c.args.self.now in
    let long = taken_all p.thresholds p.count 0 (counted (goal.at.returns c).In-Some) (omega arith) in
    sought_nowhere false _ c.loop-t.invariant.apart (omega (arith, long, c.loop-t-test.false))

-- The thresholds passed are in their range and rise, and `before` is the last of them.
use mathlib.Core.Path.{◌≡◌}
use mathlib.Core.Bool.{true, false}
use Prim.Native.Nat.{ℕ, zero, suc, ◌≤◌, ◌<◌}
use native.Mathlib.Numerals.{add-one}
use native.Mathlib.Omega.{arith}
use Rattle.walk.proofs.Tests.{le?_complete, le?_fails}
use Rattle.plan.specs.Places.{within}
use Rattle.plan.specs.Plan.{threshold_limit, threshold_at, above_before, rule2}
use Rattle.plan.specs.declared.Plan.{Plan}
use Rattle.plan.proofs.PlaceLaws.{and_fails, within_reads, within_low, within_high, sought_next, sought_here, sought_nowhere}
use Rattle.plan.proofs.PlaceLists.{taken_at, taken_all}
use Rattle.plan.proofs.Plan.thresholds_rise.Invariants.{fits, before_at}
use Rattle.plan.proofs.Plan.thresholds_rise.Goals.{then-t-before-via-then-t-before, then-t-before-via-else-t-before+then-t-gt-THRESHOLD_LIMIT}
use Rattle.plan.proofs.Plan.thresholds_rise.Goals as goal

low : (p : Plan) (i : ℕ) → threshold_at p i ≤ before_at p i → fits p i ≡ false
unfolding above_before
low p zero h = rw (within_low 1 threshold_limit (threshold_at p 0) (omega arith))
low p (suc i) h =
    and_fails (within 1 threshold_limit (threshold_at p (suc i))) _ (le?_fails (suc (threshold_at p i)) (threshold_at p (suc i)) (omega arith))

high : (p : Plan) (i : ℕ) → threshold_limit < threshold_at p i → fits p i ≡ false
high p i h = rw (within_high 1 threshold_limit (threshold_at p i) h)

fit : (p : Plan) (i : ℕ) → before_at p i < threshold_at p i → threshold_at p i ≤ threshold_limit → fits p i ≡ true
unfolding above_before
fit p zero h k = rw ((within_reads 1 threshold_limit (threshold_at p 0)).1 (h, k))
fit p (suc i) h k = rw ((within_reads 1 threshold_limit (threshold_at p (suc i))).1 (omega arith, k)) (le?_complete (suc (threshold_at p i)) (threshold_at p (suc i)) h)

pub returns-then-t-before : goal.returns-then-t-before
unfolding rule2
returns-then-t-before c =
    let p = c.args.self.now in
    let i = c.loop-t.t-index in
    let t = taken_at p.thresholds p.count 0 c.counted_thresholds-t-items.ensures i c.loop-t-test.true in
    sought_here false _ c.loop-t.invariant.rising t.0
    (elim c.then-t-before.branch [
      | then-t-before-via-then-t-before w ↦ low p i (omega (arith, t.1, c.loop-t.invariant.before_is, w.if-t-before.true))
      | then-t-before-via-else-t-before+then-t-gt-THRESHOLD_LIMIT w ↦ high p i (omega (arith, t.1, w.if-t-gt-THRESHOLD_LIMIT.true))
    ])

pub loop-t-preserved : goal.loop-t-preserved
loop-t-preserved c =
    let p = c.args.self.now in
    let i = c.loop-t.t-index in
    let t = taken_at p.thresholds p.count 0 c.counted_thresholds-t-items.ensures i c.loop-t-test.true in
    record {
      before_is = rw (add-one i) t.1;
      rising = sought_next false _ c.loop-t.invariant.rising t.0
          (fit p i (omega (arith, t.1, c.loop-t.invariant.before_is, c.if-t-before.false)) (omega (arith, t.1, c.if-t-gt-THRESHOLD_LIMIT.false)));
    }

pub returns : goal.returns
unfolding rule2
returns c =
    let p = c.args.self.now in
    let long = taken_all p.thresholds p.count 0 c.counted_thresholds-t-items.ensures (omega arith) in
    sought_nowhere false _ c.loop-t.invariant.rising (omega (arith, long, c.loop-t-test.false))

-- The points passed fit, and `step` and `share` are those of the last of them.
use mathlib.Core.Path.{◌≡◌}
use mathlib.Core.Bool.{true, false}
use Prim.Native.Nat.{ℕ, zero, suc, ◌≤◌, ◌<◌}
use native.Mathlib.Numerals.{add-one}
use native.Mathlib.Omega.{arith}
use borrow.Author.Rules.{rules}
use lib.ListN.{length}
use Rattle.std.proofs.lemmas.List.{length_push}
use Rattle.walk.specs.Units.{million}
use Rattle.walk.proofs.Tests.{le?_complete, le?_fails}
use Rattle.plan.specs.Plan.{point_limit, step_at, share_at, point_fits}
use Rattle.plan.specs.declared.Plan.{Plan}
use Rattle.plan.proofs.PlaceLaws.{fails_by, sought_next, sought_here, sought_nowhere}
use Rattle.plan.proofs.PlaceLists.{pair_here, pairs_end}
use Rattle.plan.proofs.AcceptedLaws.{PointFits, point_says}
use Rattle.plan.proofs.Plan.points_fit.Invariants.{step_before, share_before}
use Rattle.plan.proofs.Plan.points_fit.Goals.{In-Some, then-next-step-via-then-next-step, then-next-step-via-else-next-step+then-self-next, then-next-step-via-else-next-step+else-self-next+then-more-share, then-next-step-via-else-next-step+else-self-next+else-more-share+then-more-gt-MILLION}
use Rattle.plan.proofs.Plan.points_fit.Goals as goal

-- the point at place j fits exactly when it keeps these four
rises : (p : Plan) (j : ℕ) → PointFits p j → (step_before p j < step_at p j) × (share_before p j ≤ share_at p j)
rises p zero h = (omega (arith, h.0.0), omega arith)
rises p (suc j) h = h.1.1

fit : (p : Plan) (j : ℕ) → step_before p j < step_at p j → step_at p j ≤ p.horizon → share_before p j ≤ share_at p j → share_at p j ≤ million
    → point_fits p j ≡ true
fit p zero a b c d = (point_says p 0).1 ((omega arith, b), (d, tt))
fit p (suc j) a b c d = (point_says p (suc j)).1 ((omega arith, b), (d, (a, c)))

unfit : (p : Plan) (j : ℕ)
    → ¬ ((step_before p j < step_at p j) × (step_at p j ≤ p.horizon) × (share_before p j ≤ share_at p j) × (share_at p j ≤ million)) → point_fits p j ≡ false
unfit p j f = fails_by (point_fits p j) (point_says p j) (λ h. let r = rises p j h in f (r.0, h.0.1, r.1, h.1.0))

pub returns-then-self-gt-MOST_POINTS : goal.returns-then-self-gt-MOST_POINTS
returns-then-self-gt-MOST_POINTS c = rw (le?_fails c.args.self.now.points point_limit c.if-self-gt-MOST_POINTS.true)

-- the point whose turn it is
here : (c : In-Some) → let p = c.args.self.now in let j = length c.loop-next.yielded in
    (j < p.points) × (c.in-Some.field-0-0.now ≡ step_at p j) × (c.in-Some.field-0-1.now ≡ share_at p j)
here c =
    let p = c.args.self.now in
    let l = c.loop-next in
    pair_here p.steps p.shares p.points l.yielded c.into_iter-next-iterator.result l.next-iterator c.next.new.self (search rules) (search rules) l.yielded_by
    c.next.ensures.steps c.in-Some.is

pub returns-then-next-step : goal.returns-then-next-step
unfolding million
returns-then-next-step c =
    let p = c.args.self.now in
    let j = length c.loop-next.yielded in
    let v = c.loop-next.invariant in
    let h = here (goal.at.returns-then-next-step c).In-Some in
    rw (le?_complete p.points point_limit c.if-self-gt-MOST_POINTS.false)
    (sought_here false _ v.fit h.0
    (unfit p j
    (λ k. elim c.then-next-step.branch [
      | then-next-step-via-then-next-step w ↦ omega (arith, h.1, v.step_is, k.0, w.if-next-step.true)
      | then-next-step-via-else-next-step+then-self-next w ↦ omega (arith, h.1, k.1, w.if-self-next.true)
      | then-next-step-via-else-next-step+else-self-next+then-more-share w ↦ omega (arith, h.2, v.share-is, k.2, w.if-more-share.true)
      | then-next-step-via-else-next-step+else-self-next+else-more-share+then-more-gt-MILLION w ↦ omega (arith, h.2, k.3, w.if-more-gt-MILLION.true)
    ])))

pub loop-next-preserved : goal.loop-next-preserved
unfolding million
loop-next-preserved c =
    let p = c.args.self.now in
    let l = c.loop-next in
    let j = length l.yielded in
    let v = l.invariant in
    let h = here (goal.at.loop-next-preserved c).In-Some in
    let more = length_push l.yielded (c.in-Some.field-0-0, c.in-Some.field-0-1) in record {
      step_is = rw (more, add-one j) h.1;
      share-is = rw (more, add-one j) h.2;
      fit = rw more
          (sought_next false _ v.fit h.0
          (fit p j (omega (arith, h.1, v.step_is, c.if-next-step.false)) (omega (arith, h.1, c.if-self-next.false))
          (omega (arith, h.2, v.share-is, c.if-more-share.false)) (omega (arith, h.2, c.if-more-gt-MILLION.false))));
    }

pub returns : goal.returns
returns c =
    let p = c.args.self.now in
    let l = c.loop-next in
    rw (le?_complete p.points point_limit c.if-self-gt-MOST_POINTS.false)
    (sought_nowhere false _ l.invariant.fit
    (omega (
      arith,
      pairs_end p.steps p.shares p.points l.yielded c.into_iter-next-iterator.result l.next-iterator c.next.new.self (search rules) (search rules) l.yielded_by
          c.next.ensures.steps (omega arith) (omega arith) c.in-None.is,
    )))

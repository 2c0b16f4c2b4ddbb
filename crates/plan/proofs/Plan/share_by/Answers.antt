-- The share is that of the points passed.
use mathlib.Core.Path.{◌≡◌, sym, ◌∙◌}
use Prim.Native.Nat.{◌<◌}
use native.Mathlib.Numerals.{add-one}
use native.Mathlib.Omega.{arith}
use borrow.Author.Rules.{rules}
use lib.ListN.{length}
use Rattle.std.proofs.lemmas.List.{length_push}
use Rattle.plan.specs.Points.{share_by}
use Rattle.plan.specs.Plan.{step_at, share_at}
use Rattle.plan.proofs.PlaceLists.{pair_here, pairs_end}
use Rattle.plan.proofs.PointLaws.{share_reached, share_later}
use Rattle.plan.proofs.Plan.share_by.Goals.{In-Some}
use Rattle.plan.proofs.Plan.share_by.Goals as goal

pub loop-step-init : goal.loop-step-init
unfolding share_by
loop-step-init c = search rules

-- the point whose turn it is
here : (c : In-Some) → let p = c.args.self.now in let j = length c.loop-step.yielded in
    (j < p.points) × (c.in-Some.field-0-0.now ≡ step_at p j) × (c.in-Some.field-0-1.now ≡ share_at p j)
here c =
    let p = c.args.self.now in
    let l = c.loop-step in
    pair_here p.steps p.shares p.points l.yielded c.into_iter-step-iterator.result l.step-iterator c.next.new.self (search rules) (search rules) l.yielded_by
    c.next.ensures.steps c.in-Some.is

pub loop-step-preserved-then-step-n : goal.loop-step-preserved-then-step-n
loop-step-preserved-then-step-n c =
    let j = length c.loop-step.yielded in
    let h = here (goal.at.loop-step-preserved-then-step-n c).In-Some in
    rw (length_push c.loop-step.yielded (c.in-Some.field-0-0, c.in-Some.field-0-1), add-one j)
    (h.2 ∙ sym (share_reached _ _ j c.args.n (omega (arith, h.1, c.if-step-n.true))))

pub loop-step-preserved : goal.loop-step-preserved
loop-step-preserved c =
    let j = length c.loop-step.yielded in
    let h = here (goal.at.loop-step-preserved c).In-Some in
    rw (length_push c.loop-step.yielded (c.in-Some.field-0-0, c.in-Some.field-0-1), add-one j)
    (c.loop-step.invariant ∙ sym (share_later _ _ j c.args.n (omega (arith, h.1, c.if-step-n.false))))

pub returns : goal.returns
returns c =
    let p = c.args.self.now in
    let l = c.loop-step in
    rw (← pairs_end p.steps p.shares p.points l.yielded c.into_iter-step-iterator.result l.step-iterator c.next.new.self (search rules) (search rules) l.yielded_by
    c.next.ensures.steps (omega arith) (omega arith) c.in-None.is) l.invariant

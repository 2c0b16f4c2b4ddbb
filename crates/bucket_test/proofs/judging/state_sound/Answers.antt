-- The first test that fails settles the answer; n is at most N, and so at most the limit.
use mathlib.Core.Path.{sym, ◌∙◌}
use Prim.Native.Nat.{◌≤◌}
use native.Mathlib.Omega.{arith}
use Rattle.walk.specs.Numbers.{le?}
use Rattle.walk.proofs.Tests.{clash, le?_complete, le?_fails, le?_sound}
use Rattle.bucket_test.specs.Draw.{state_sound}
use Rattle.plan.proofs.AcceptedLaws.{accepted}
use Rattle.bucket_test.proofs.judging.state_sound.Goals.{Then-s, then-s-p, else-s-p}
use Rattle.bucket_test.proofs.judging.state_sound.Goals as goal

inside : (c : Then-s) → let a = c.args in (a.s.now.n ≤ a.p.now.horizon) × (a.s.now.ones ≤ a.s.now.n)
unfolding le?
inside c =
    elim c.if-s-p.branch [
      | then-s-p w ↦ (w.if-s-p.true, le?_sound _ _ (sym w.value-is ∙ c.if-s.true))
      | else-s-p w ↦ clash (sym c.if-s.true ∙ w.value-is ∙ le?_fails _ _ w.if-s-p.false)
    ]

pub records_sound-requires : goal.records_sound-requires
records_sound-requires c =
    let h = c.requires in
    (h.0, h.1, omega (arith, inside c, ((accepted c.args.p.now).0 h.0).horizon_range))

pub returns-then-s : goal.returns-then-s
unfolding state_sound
returns-then-s c =
    let i = inside (goal.at.returns-then-s c).Then-s in
    rw (le?_complete _ _ i.0, le?_complete _ _ i.1) c.records_sound.ensures

pub returns-else-s : goal.returns-else-s
unfolding state_sound le?
returns-else-s c =
    elim c.if-s-p.branch [
      | then-s-p w ↦ rw (le?_complete _ _ w.if-s-p.true, sym w.value-is ∙ c.if-s.false) c.if-s.false
      | else-s-p w ↦ rw (le?_fails _ _ w.if-s-p.false) c.if-s.false
    ]

-- n and S first, then the parts.
use mathlib.Core.Path.{◌∙◌}
use Prim.Native.Nat.{◌<◌}
use native.Mathlib.Omega.{arith}
use Rattle.walk.specs.Numbers.{le?}
use Rattle.walk.proofs.Tests.{le?_fails}
use Rattle.saved_test.proofs.ReadingLaws.{held_long, sound_late, sound_ones, sound_parts}
use Rattle.saved_test.proofs.reading.state_sound_in.Goals.{then-n-p, else-n-p}
use Rattle.saved_test.proofs.reading.state_sound_in.Goals as goal

pub read_u32-n-requires : goal.read_u32-n-requires
read_u32-n-requires c = omega (arith, held_long _ _ c.requires.1.held)

pub read_u32-ones-requires : goal.read_u32-ones-requires
read_u32-ones-requires c = omega (arith, held_long _ _ c.requires.1.held)

pub parts_sound-requires : goal.parts_sound-requires
parts_sound-requires c =
    (omega (arith, c.requires.0), rw c.read_u32-n.ensures.0 c.requires.1)

pub returns-then-ones-n : goal.returns-then-ones-n
returns-then-ones-n c q =
    sound_parts _ _ _ _ c.read_u32-n.ensures.0 c.read_u32-ones.ensures.0 c.if-ones-n.true.0 c.if-ones-n.true.1
    c.requires.1.few _ (c.parts_sound.ensures (rw c.read_u32-n.ensures.0 q))

pub returns-else-ones-n : goal.returns-else-ones-n
unfolding le?
returns-else-ones-n c q =
    let late = c.if-ones-n.either in
    elim c.if-n-p.branch [
      | then-n-p w ↦
          let early = w.if-n-p.true in
          let h : c.read_u32-n.result < c.read_u32-ones.result = omega (arith, late, early) in
          w.t-7-is ∙ le?_fails _ _ h ∙ sound_ones _ _ _ _ c.read_u32-n.ensures.0 c.read_u32-ones.ensures.0 early h
      | else-n-p w ↦ w.t-7-is ∙ le?_fails _ _ w.if-n-p.false ∙ sound_late _ _ _ _ c.read_u32-n.ensures.0 c.read_u32-ones.ensures.0 w.if-n-p.false
    ]

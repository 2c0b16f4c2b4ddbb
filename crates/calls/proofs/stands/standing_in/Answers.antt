-- After i places s is how the first i records stand; its high never passes a million, as `seen` asks.
use native.Mathlib.Omega.{arith}
use Rattle.saved_test.specs.Form.{record_offset}
use Rattle.saved_test.specs.Reading.{record_in}
use Rattle.calls.proofs.TurnLaws.{seen_none, seen_next}
use Rattle.calls.proofs.stands.standing_in.Goals as goal

pub loop-i-init : goal.loop-i-init
loop-i-init c = let e = c.unseen-s.ensures in (omega arith, seen_none _ _ _ e, rw e (omega arith))

pub record_in-t-requires : goal.record_in-t-requires
unfolding record_offset
record_in-t-requires c = omega (arith, c.requires.1, c.loop-i-test.true)

pub loop-i-preserved : goal.loop-i-preserved
unfolding record_offset
loop-i-preserved c =
    let l = c.loop-i in
    let e = c.seen-s.ensures in (
      omega (arith, c.loop-i-test.true),
      seen_next _ (record_in _) l.i l.s _ _ c.record_in-t.ensures l.invariant.1 e.0 e.1 e.2,
      omega (arith, e.1, l.invariant.2),
    )

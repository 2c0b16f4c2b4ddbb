-- What is done and what is to come make one list, `spread_rest`, and one count, by `round_rest`, that no turn changes.
use Rattle.std.proofs.Common.{◌≡◌, ℕ, ◌+◌, ◌≤◌, List, ◌++◌, drop, length, ap, ◌∙◌, arith, length-take-le}
use Rattle.walk.specs.Units.{wide, mass_limit}
use Rattle.walk.proofs.Rounding.{rounding_le}
use Rattle.walk.proofs.Loops.{spread_more, spread_done, spread_last, round_more, round_done, small_more}
use Rattle.walk.proofs.row.spread.Goals.{After-mass_up-new}
use Rattle.walk.proofs.row.spread.Goals as goal

pub mass_up-new-requires : goal.mass_up-new-requires
mass_up-new-requires c =
    let l = c.loop-x in
    (c.requires.2, (small_more c.args.a l.x-items l.prev l.x-index 0 mass_limit (omega arith) l.invariant.small).0, l.invariant.before)

one_more : (c : After-mass_up-new) → c.mass_up-new.result.rounding ≤ 1
one_more c = rw c.mass_up-new.ensures.1 (rounding_le _ _ _)

pub overflow_add-rounded : goal.overflow_add-rounded
unfolding wide
overflow_add-rounded c =
    omega (arith, one_more (goal.at.overflow_add-rounded c).After-mass_up-new, length-take-le c.args.n c.args.part.now (omega arith), c.requires.1)

pub loop-x-preserved : goal.loop-x-preserved
loop-x-preserved c =
    let m = c.mass_up-new in
    let a = c.args.a in
    let l = c.loop-x in
    let s = small_more a l.x-items l.prev l.x-index m.result.mass mass_limit (omega arith) l.invariant.small in
    let r = round_more a l.x-items l.prev l.x-index m.result.mass (omega arith) in
    record {
      cells = spread_more a l.x-items l.prev l.x-index m.result.mass (omega arith) m.ensures.0 ∙ l.invariant.cells;
      counted = omega (arith, r, m.ensures.1, l.invariant.counted);
      few = omega (arith, one_more (goal.at.loop-x-preserved c).After-mass_up-new, l.invariant.few);
      small = s.1;
      before = s.0;
    }

pub overflow_add-result : goal.overflow_add-result
unfolding wide
overflow_add-result c =
    let a = c.args in
    omega (arith, c.mass_up-last.ensures.1, rounding_le a.a 0 c.loop-x.prev, length-take-le a.n a.part.now (omega arith), c.requires.1)

pub returns : goal.returns
returns c =
    let m = c.mass_up-last in
    let a = c.args in
    let l = c.loop-x in
    let long : length l.x-items ≡ a.n = omega (arith, length-take-le a.n a.part.now (omega arith)) in (
      omega (arith, l.invariant.counted, round_done a.a l.x-items l.prev l.x-index 0 (omega arith), m.ensures.1),
      spread_last a.part.now l.x-items a.n m.result.mass (omega arith) long
          ∙ ap (λ (x : List ℕ). x ++ drop (a.n + 1) a.part.now)
          (spread_done a.a l.x-items l.prev l.x-index m.result.mass (omega arith) m.ensures.0 ∙ l.invariant.cells),
    )

-- What is done and what is to come make one list, `spread_rest`, and one count, by `round_rest`, that no turn changes.
use Rattle.std.proofs.Common.{◌≡◌, ◌+◌, ◌≤◌, true, drop}
use Rattle.walk.specs.Numbers.{all_up_to}
use Rattle.walk.specs.Units.{mass_limit}
use Rattle.walk.proofs.Loops.{spread_rest, round_rest}
use Rattle.walk.proofs.row.spread.Given as goal

abbrev pub invariant-loop-x : goal.invariant-loop-x
invariant-loop-x l = record {
  cells : spread_rest l.a l.x-items l.prev l.x-index ≡ spread_rest l.a l.initial.x-items 0 0;
  counted : l.rounded + round_rest l.a l.x-items l.prev l.x-index ≡ round_rest l.a l.initial.x-items 0 0;
  few : l.rounded ≤ l.x-index;
  small : all_up_to mass_limit (drop l.x-index l.x-items) ≡ true;
  before : l.prev ≤ mass_limit;
}

-- The masses so far are absorbed, and fit: `dropped_is` says what it means that the next does not.
use Rattle.std.proofs.Common.{◌≡◌, ◌+◌, ◌≤◌, length, map}
use Rattle.walk.specs.Numbers.{sum}
use Rattle.walk.specs.Units.{wide}
use Rattle.walk.proofs.row.absorb.Given as goal

abbrev pub invariant-loop-mass : goal.invariant-loop-mass
invariant-loop-mass g l = record {
  can : (goal.iterator-loop-mass g).can_next l.mass-iterator;
  ends : (goal.iterator-loop-mass g).is_finite l.mass-iterator;
  few : l.absorbed.count + (goal.iterator-loop-mass g).remaining l.mass-iterator ≤ wide;
  counted : l.absorbed.count ≡ length l.yielded;
  fits : l.absorbed.spent ≤ l.e;
  is : l.absorbed.spent ≡ l.spent + sum (map (λ x. x.now) l.yielded);
}

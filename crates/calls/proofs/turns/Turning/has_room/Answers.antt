-- Room for one mass more of each threshold is enough; else the new form is measured.
use mathlib.Core.Path.{sym}
use Prim.Native.Nat.{◌*◌, ◌≤◌}
use native.Mathlib.Omega.{arith}
use Rattle.walk.specs.Numbers.{le?}
use Rattle.walk.specs.Units.{wide}
use Rattle.walk.proofs.Tests.{le?_complete}
use Rattle.plan.specs.Plan.{count_limit}
use Rattle.saved_test.specs.Form.{form_size, record_offset}
use Rattle.calls.proofs.TurnLaws.{few, new_few, size_grows}
use Rattle.calls.proofs.turns.Turning.has_room.Goals.{After-masses_after-masses}
use Rattle.calls.proofs.turns.Turning.has_room.Goals as goal

pub returns-then-self-count : goal.returns-then-self-count
returns-then-self-count c = sym (le?_complete _ _ (omega (arith, size_grows c.requires.0, c.if-self-count.true)))

-- the masses that it counts
counted : (c : After-masses_after-masses) → c.masses_after-masses.result ≤ wide * count_limit
unfolding wide
counted c = omega (arith, c.masses_after-masses.ensures, new_few c.requires.0 c.args.self.now.plan.now.count (omega arith), few c.requires.0)

pub overflow_mul-result-2 : goal.overflow_mul-result-2
unfolding wide
overflow_mul-result-2 c = omega (arith, counted (goal.at.overflow_mul-result-2 c).After-masses_after-masses)

pub overflow_add-result-2 : goal.overflow_add-result-2
unfolding wide
overflow_add-result-2 c = omega (arith, counted (goal.at.overflow_add-result-2 c).After-masses_after-masses, few c.requires.0)

pub returns : goal.returns
unfolding le? form_size record_offset
returns c = rw c.masses_after-masses.ensures

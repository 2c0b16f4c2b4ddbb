-- The turns of the thresholds before place i are taken: their masses stand behind the place of the records, and their records behind the header's.
use mathlib.Core.Path.{◌≡◌}
use mathlib.Core.List.{List}
use Prim.Native.Nat.{ℕ, ◌-◌, ◌≤◌}
use lib.ListN.{length}
use Rattle.walk.specs.Units.{million}
use Rattle.plan.specs.Places.{join_to}
use Rattle.plan.specs.declared.Plan.{Plan}
use Rattle.little.specs.Little.{put_at}
use Rattle.saved_test.specs.Form.{header_size, record_offset, masses_to}
use Rattle.saved_test.specs.Reading.{mass_offset}
use Rattle.calls.specs.Inner.{Seen, new_record, new_record_bytes, new_mass_bytes}
use Rattle.calls.specs.declared.Standing.{Standing}
use Rattle.calls.proofs.turns.Turning.turn_through.Given as goal

pub record Done (p : Plan) (n ones : ℕ) (bytes part₀ lent₀ part lent : List ℕ) (at masses : ℕ) (standing : Standing) (i : ℕ) : Type 0 where
  pub inside : i ≤ p.count
  pub part_size : length part ≡ length part₀
  pub lent_size : length lent ≡ length lent₀
  pub at_is : at ≡ mass_offset bytes p.count i
  pub masses_are : masses ≡ masses_to (new_record p n ones bytes) i
  pub seen : Seen p i (new_record p n ones bytes) standing
  pub high : standing.interval.high ≤ million
  pub lent_is : lent ≡ put_at header_size (join_to i (new_record_bytes p n ones bytes)) (put_at (record_offset p.count) (join_to i (new_mass_bytes p n ones bytes)) lent₀)

abbrev pub invariant-loop-i : goal.invariant-loop-i
invariant-loop-i l =
    Done l.self.plan.now l.self.n l.self.ones l.self.saved.now l.initial.part l.initial.lent l.part l.lent l.at l.masses l.standing l.i

abbrev pub decreases-loop-i : goal.decreases-loop-i
decreases-loop-i l = l.count - l.i

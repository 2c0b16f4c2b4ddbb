-- The thresholds before place i pass.
use mathlib.Core.Path.{◌≡◌}
use mathlib.Core.Bool.{false}
use Rattle.plan.proofs.PlaceLaws.{Sought}
use Rattle.plan.specs.Tables.{portion_of}
use Rattle.saved_test.specs.Reading.{mass_offset}
use Rattle.saved_test.specs.Inner.{part_passes}
use Rattle.saved_test.proofs.reading.parts_sound.Given as goal

abbrev pub invariant-loop-i : goal.invariant-loop-i
invariant-loop-i l = (l.at ≡ mass_offset l.bytes l.count l.i) × (portion_of l.p l.n ≡ l.portion → Sought false (part_passes l.p l.bytes l.n l.ones) l.count l.i)

-- The places are filled up to place i.
use Rattle.little.specs.Little.{column}
use Rattle.little.proofs.FilledLaws.{FilledTo}
use Rattle.little.proofs.tables.long_fields_in.Given as goal

abbrev pub invariant-loop-i : goal.invariant-loop-i
invariant-loop-i l = FilledTo l.count (column 8 l.at l.stride l.bytes) l.initial.place-items l.i l.place-items

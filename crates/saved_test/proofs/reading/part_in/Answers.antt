-- The rest is cleared, then the first words are filled.
use Rattle.saved_test.proofs.ReadingLaws.{part_filled}
use Rattle.saved_test.proofs.reading.part_in.Goals as goal

pub returns : goal.returns
returns c =
    part_filled c.args.count _ c.args.part.now _ _ c.requires.0 c.requires.1 c.clear_from.ensures c.front_in.ensures

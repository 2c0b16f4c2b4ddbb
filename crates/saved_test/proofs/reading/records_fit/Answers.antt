-- Record by record.
use mathlib.Core.Path.{refl, ◌∙◌}
use native.Mathlib.Omega.{arith}
use borrow.Author.Rules.{rules}
use borrow.Author.Tests.{tests}
use Rattle.std.proofs.lemmas.Iterator.{YieldsList-from_range}
use Rattle.std.proofs.lemmas.Iterator.Search.{all_from_yields_List}
use Rattle.saved_test.specs.Form.{record_offset}
use Rattle.saved_test.specs.Reading.{record_fits}
use Rattle.saved_test.proofs.PlaceRanges.{all_range}
use Rattle.saved_test.proofs.reading.records_fit.Goals as goal

pub returns : goal.returns
unfolding record_fits record_offset
returns c =
    all_from_yields_List (record_fits c.args.bytes.now) c.all.new.self _ c.all.result c.all.ensures.ran (YieldsList-from_range 0 c.args.count c.args.count refl (omega arith))
    (λ x b q k. search (rules, tests))
    ∙ all_range (record_fits c.args.bytes.now) c.args.count

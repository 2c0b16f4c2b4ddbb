-- Record by record.
use mathlib.Core.Path.{◌∙◌}
use borrow.Author.Rules.{rules}
use borrow.Author.Tests.{tests}
use Rattle.std.proofs.lemmas.Iterator.{YieldsList-from_slice, YieldsList-from_map}
use Rattle.std.proofs.lemmas.Iterator.Consumers.{YieldsList-at, sum_by_from_yields_List}
use Rattle.saved_test.specs.Form.{live_count}
use Rattle.saved_test.proofs.PlaceRanges.{masses_list}
use Rattle.saved_test.proofs.marks.masses_of.Goals as goal

pub returns : goal.returns
returns c =
    sum_by_from_yields_List (λ t. live_count t) c.args.records.now c.map.result _ c.sum.ensures.ran
    (YieldsList-from_map _ (λ t. live_count t) (YieldsList-at c.map.ensures.source (YieldsList-from_slice c.args.records.now (cc))) c.map.ensures.closure (λ x r q k. search (rules, tests)))
    ∙ masses_list c.args.records.now

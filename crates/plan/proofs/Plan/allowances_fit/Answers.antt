-- Each of the counted allowances fits.
use mathlib.Core.Path.{◌∙◌}
use native.Mathlib.Omega.{arith}
use borrow.Author.Rules.{rules}
use borrow.Author.Tests.{tests}
use lib.ListN.{take}
use Rattle.std.proofs.lemmas.Iterator.{YieldsList-from_slice}
use Rattle.std.proofs.lemmas.Iterator.Search.{all_from_yields_List}
use Rattle.walk.specs.Numbers.{le?}
use Rattle.walk.specs.Units.{allowance_limit}
use Rattle.plan.specs.Places.{within}
use Rattle.plan.specs.Plan.{rule3}
use Rattle.plan.proofs.PlaceLists.{all_taken}
use Rattle.plan.proofs.Plan.allowances_fit.Goals as goal

pub returns : goal.returns
unfolding rule3 allowance_limit le?
returns c =
    let p = c.args.self.now in
    all_from_yields_List (within 1 allowance_limit) _ _ c.all.result c.all.ensures.ran (YieldsList-from_slice (take p.count p.allowances) cc)
    (λ x b q k. search (rules, tests))
    ∙ all_taken (within 1 allowance_limit) p.allowances 0 p.count (omega arith)

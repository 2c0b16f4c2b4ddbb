-- Rule 6 by its two parts.
use mathlib.Core.Path.{◌∙◌}
use native.Mathlib.Omega.{arith}
use borrow.Author.Rules.{rules}
use borrow.Author.Tests.{tests}
use lib.ListN.{take}
use Rattle.std.proofs.lemmas.Iterator.{YieldsList-from_slice}
use Rattle.std.proofs.lemmas.Iterator.Search.{all_from_yields_List, any_from_yields_List}
use Rattle.plan.specs.Places.{eq?}
use Rattle.plan.specs.Plan.{covered_above, rule6}
use Rattle.plan.proofs.PlaceLists.{all_taken, any_taken}
use Rattle.plan.proofs.Plan.buckets_cover.Goals as goal

pub returns-then-any : goal.returns-then-any
unfolding rule6 eq?
returns-then-any c =
    let p = c.args.self.now in
    let begins =
    any_from_yields_List (λ x. eq? x 0) c.any.new.self _ c.any.result c.any.ensures.ran (YieldsList-from_slice (take p.buckets p.left) cc)
    (λ x b q k. search (rules, tests))
    ∙ any_taken (λ x. eq? x 0) p.left 0 p.buckets (omega arith)
    in
    rw (← begins, c.if-any.true)
    (all_from_yields_List (covered_above p) c.all.new.self _ c.all.result c.all.ensures.ran (YieldsList-from_slice (take p.buckets p.right) cc)
    (λ x b q k. search (rules, tests))
    ∙ all_taken (covered_above p) p.right 0 p.buckets (omega arith))

pub returns-else-any : goal.returns-else-any
unfolding rule6 eq?
returns-else-any c =
    let p = c.args.self.now in
    let begins =
    any_from_yields_List (λ x. eq? x 0) c.any.new.self _ c.any.result c.any.ensures.ran (YieldsList-from_slice (take p.buckets p.left) cc)
    (λ x b q k. search (rules, tests))
    ∙ any_taken (λ x. eq? x 0) p.left 0 p.buckets (omega arith)
    in
    rw (← begins, c.if-any.false)

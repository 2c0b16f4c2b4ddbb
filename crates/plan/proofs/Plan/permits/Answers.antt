-- One kind of permitted end after the other.
use mathlib.Core.Path.{ap, ◌∙◌}
use native.Mathlib.Omega.{arith}
use borrow.Author.Rules.{rules}
use borrow.Author.Tests.{tests}
use Rattle.std.specs.List.{list_any}
use Rattle.std.proofs.lemmas.Iterator.{YieldsList-from_slice}
use Rattle.std.proofs.lemmas.Iterator.Search.{any_from_yields_List}
use Rattle.walk.specs.Units.{million}
use Rattle.plan.specs.Places.{eq?}
use Rattle.plan.specs.Plan.{threshold_at, permitted}
use Rattle.plan.proofs.PlaceLaws.{eq?_fails, eq?_swap, any_cong}
use Rattle.plan.proofs.PlaceLists.{any_taken}
use Rattle.plan.proofs.Plan.permits.Goals as goal

pub returns-then-end-eq-MILLION : goal.returns-then-end-eq-MILLION
unfolding permitted million eq?
returns-then-end-eq-MILLION c = search (rules, tests)

pub returns-else-end-eq-MILLION : goal.returns-else-end-eq-MILLION
unfolding permitted million eq?
returns-else-end-eq-MILLION c =
    let p = c.args.self.now in
    let e = c.args.end in
    rw (eq?_fails e 0 c.if-end-eq-MILLION.false.0, eq?_fails e 1000000 c.if-end-eq-MILLION.false.1)
    (any_from_yields_List (λ x. eq? x e) c.any.new.self _ c.any.result c.any.ensures.ran (YieldsList-from_slice c.counted_thresholds.result.now cc)
    (λ x b q k. search (rules, tests))
    ∙ ap (list_any (λ x. eq? x e)) c.counted_thresholds.ensures
    ∙ any_taken (λ x. eq? x e) p.thresholds 0 p.count (omega arith)
    ∙ any_cong p.count _ _ (λ i l. eq?_swap (threshold_at p i) e))

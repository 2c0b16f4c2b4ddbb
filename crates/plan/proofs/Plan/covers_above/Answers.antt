-- Below the top, some bucket covers what lies just above the end.
use mathlib.Core.Path.{◌∙◌}
use Prim.Native.Nat.{ℕ}
use native.Mathlib.Omega.{arith}
use borrow.Author.Rules.{rules}
use borrow.Author.Tests.{tests, lt-leb}
use mathlib.Core.Bool.{◌&&◌}
use lib.ListN.{take}
use Rattle.std.proofs.lemmas.Iterator.{YieldsList-from_slice, YieldsList-from_zip}
use Rattle.std.proofs.lemmas.Iterator.Search.{any_from_yields_List}
use Rattle.walk.specs.Numbers.{le?, lt?}
use Rattle.walk.specs.Units.{million}
use Rattle.plan.specs.Plan.{covered_above}
use Rattle.plan.proofs.PlaceLists.{any_paired}
use Rattle.plan.proofs.Plan.covers_above.Goals as goal

pub returns-then-end-ge-MILLION : goal.returns-then-end-ge-MILLION
unfolding covered_above million le?
returns-then-end-ge-MILLION c = search (rules, tests)

pub returns-else-end-ge-MILLION : goal.returns-else-end-ge-MILLION
unfolding covered_above million le?
returns-else-end-ge-MILLION c =
    let p = c.args.self.now in
    let e = c.args.end in
    let over = λ (q : ℕ × ℕ). le? q.0 e && lt? e q.1 in
    rw (lt-leb 1000000 e c.if-end-ge-MILLION.false)
    (any_from_yields_List over c.any.new.self _ c.any.result c.any.ensures.ran
    (YieldsList-from_zip (YieldsList-from_slice (take p.buckets p.left) cc) (YieldsList-from_slice (take p.buckets p.right) cc))
    (λ x b q k. search (rules, tests))
    ∙ any_paired over p.left p.right p.buckets (omega arith) (omega arith))

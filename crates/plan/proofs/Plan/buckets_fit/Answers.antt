-- Each of the counted buckets fits.
use mathlib.Core.Path.{◌∙◌}
use Prim.Native.Nat.{ℕ}
use native.Mathlib.Omega.{arith}
use borrow.Author.Rules.{rules}
use borrow.Author.Tests.{tests}
use lib.ListN.{take}
use Rattle.std.proofs.lemmas.Iterator.{YieldsList-from_slice, YieldsList-from_zip}
use Rattle.std.proofs.lemmas.Iterator.Search.{all_from_yields_List}
use Rattle.plan.specs.Plan.{bucket_fits, rule5}
use Rattle.plan.specs.Tables.{ends_fit}
use Rattle.plan.proofs.PlaceLists.{all_paired}
use Rattle.plan.proofs.Plan.buckets_fit.Goals as goal

pub returns : goal.returns
unfolding rule5 bucket_fits
returns c =
    let p = c.args.self.now in
    let fit = λ (q : ℕ × ℕ). ends_fit p q.0 q.1 in
    all_from_yields_List fit c.all.new.self _ c.all.result c.all.ensures.ran
    (YieldsList-from_zip (YieldsList-from_slice (take _ p.left) cc) (YieldsList-from_slice (take _ p.right) cc))
    (λ x b q k. search (rules, tests))
    ∙ all_paired fit p.left p.right _ (omega arith) (omega arith)

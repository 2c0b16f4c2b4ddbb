-- Some record among the first K is open and wide.
use native.Mathlib.Omega.{arith}
use borrow.Author.Rules.{rules}
use borrow.Author.Tests.{tests}
use mathlib.Core.Path.{◌≡◌, ◌∙◌}
use lib.ListN.{length, take}
use Rattle.std.proofs.lemmas.Iterator.{YieldsList-from_slice}
use Rattle.std.proofs.lemmas.Iterator.Search.{any_from_yields_List}
use Rattle.bucket_test.specs.Turn.{no_record, wide_open}
use Rattle.bucket_test.specs.Answers.{any_wide}
use Rattle.bucket_test.proofs.AnsweringLaws.{any_of_first}
use Rattle.bucket_test.proofs.answering.any_wide.Goals as goal

pub returns : goal.returns
unfolding any_wide
returns c =
    let n = c.args.p.now.count in
    let rs = c.args.s.now.records in
    let long : length rs ≡ 10 = search rules in
    any_from_yields_List wide_open _ _ _ c.any.ensures.ran (YieldsList-from_slice (take n rs) cc) (λ x b q k. search (rules, tests))
    ∙ any_of_first wide_open no_record n rs (omega (arith, c.requires))

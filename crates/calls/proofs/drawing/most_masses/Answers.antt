-- The largest of what the chain reads is no less than any of them.
use mathlib.Core.Path.{refl, ap, ◌∙◌}
use Prim.Native.Nat.{ℕ}
use native.Mathlib.Omega.{arith}
use borrow.Author.Rules.{rules}
use borrow.Author.Tests.{tests}
use Rattle.std.specs.Prelude.{unwrap_or}
use Rattle.std.specs.List.{range_with_len}
use Rattle.std.proofs.lemmas.Iterator.{YieldsList-from_range, YieldsList-from_map}
use Rattle.std.proofs.lemmas.Iterator.Consumers.{YieldsList-at, reduce_from_yields_List}
use Rattle.std.proofs.lemmas.List.Folds.{max_of_map}
use Rattle.saved_test.specs.Form.{record_offset, live_count}
use Rattle.saved_test.specs.Reading.{record_in}
use Rattle.calls.proofs.Taking.{largest_range}
use Rattle.calls.proofs.drawing.most_masses.Goals as goal

pub returns : goal.returns
unfolding record_offset
returns c i l =
    let n = c.args.count in
    let live : ℕ → ℕ = λ i. live_count (record_in c.args.bytes.now i) in
    let source = YieldsList-at c.map.ensures.source (YieldsList-from_range 0 n n refl (omega arith)) in
    let is =
    c.unwrap_or.ensures
    ∙ ap (λ o. unwrap_or o 0)
    (reduce_from_yields_List _ c.map.result _ c.max.ensures.ran (YieldsList-from_map _ (λ i. live_count (record_in c.args.bytes.now i)) source c.map.ensures.closure (λ x r q k. search (rules, tests))))
    ∙ max_of_map live (range_with_len 0 n) in
    rw is (largest_range live n i l)

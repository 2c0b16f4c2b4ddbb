-- Record by record; each has fewer than 2^33 masses.
use mathlib.Core.Path.{refl, ◌∙◌}
use Prim.Native.Nat.{◌*◌, ◌^◌}
use native.Mathlib.Omega.{arith}
use borrow.Author.Rules.{rules}
use borrow.Author.Tests.{tests}
use Rattle.std.specs.List.{range_with_len}
use Rattle.std.proofs.lemmas.Iterator.{YieldsList-from_range, YieldsList-from_map}
use Rattle.std.proofs.lemmas.Iterator.Adapters.{fits_from_length, at_most_from_yields_List}
use Rattle.std.proofs.lemmas.Iterator.Consumers.{YieldsList-at, sum_by_from_yields_List}
use Rattle.std.proofs.lemmas.List.FromFn.{length-range_with_len}
use Rattle.saved_test.specs.Form.{record_offset, live_count}
use Rattle.saved_test.specs.Reading.{record_in}
use Rattle.saved_test.proofs.PlaceRanges.{masses_range, total_few}
use Rattle.saved_test.proofs.reading.masses_in.Goals as goal

pub sum-requires-clause-fits : goal.sum-requires-clause-fits
sum-requires-clause-fits c =
    let n = c.args.count in
    fits_from_length _ _ 10 (2 ^ 64) (at_most_from_yields_List (YieldsList-at c.map.ensures.source (YieldsList-from_range 0 n n refl (omega arith))) (omega (arith, length-range_with_len 0 n)))
    c.map.ensures.closure (omega arith) (λ x r q k. search rules)

pub returns : goal.returns
unfolding record_offset
returns c =
    let n = c.args.count in
    let w = c.sum.ensures.runs tt in
    let source = YieldsList-at c.map.ensures.source (YieldsList-from_range 0 n n refl (omega arith)) in (
      sum_by_from_yields_List (λ i. live_count (record_in c.args.bytes.now i)) (range_with_len 0 n) c.map.result _ c.sum.ensures.ran
          (YieldsList-from_map _ (λ i. live_count (record_in c.args.bytes.now i)) source c.map.ensures.closure (λ x r q k. search (rules, tests)))
          ∙ masses_range (record_in c.args.bytes.now) n,
      omega (arith, w.3, total_few w.0 w.1 10 (2 ^ 33 * 10) (at_most_from_yields_List source (omega (arith, length-range_with_len 0 n))) _ c.map.ensures.closure (λ x r q k. search rules)),
    )

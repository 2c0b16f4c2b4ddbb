-- The places that contain the interval, in plan order, and the first of the narrowest among them.
use mathlib.Core.Path.{◌∙◌}
use Prim.Native.Nat.{ℕ}
use native.Mathlib.Omega.{arith}
use borrow.Author.Rules.{rules}
use borrow.Author.Tests.{tests}
use Rattle.std.proofs.lemmas.Iterator.{YieldsList-from_range}
use Rattle.std.proofs.lemmas.Iterator.Consumers.{YieldsList-from_filter}
use Rattle.bucket_choice.specs.Choice.{width_at, contains}
use Rattle.bucket_choice.proofs.ByKey.{reduce_from_min_by_key}
use Rattle.bucket_choice.proofs.BestLaws.{picked_is}
use Rattle.bucket_choice.proofs.choosing.chosen_bucket.Goals as goal

pub returns : goal.returns
unfolding contains
returns c =
    let p = c.args.p.now in
    let v = c.args.interval in
    let key = λ (j : ℕ). width_at p j in
    reduce_from_min_by_key _ _ key (λ x k q h. search (rules, tests)) _ _ c.min_by_key.ensures.ran
    (YieldsList-from_filter _ (contains p v.low v.high) (YieldsList-from_range 0 p.buckets p.buckets c.filter.ensures.source (omega arith)) c.filter.ensures.closure (λ x b q k. search (rules, tests)))
    ∙ picked_is p v.low v.high key (λ i j l m. (λ e. omega (arith, c.requires), λ e. omega (arith, c.requires)))

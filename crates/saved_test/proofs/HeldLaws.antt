-- The test that bytes hold, place by place (specs/Reading).
use mathlib.Core.Path.{◌≡◌}
use mathlib.Core.List.{List}
use Prim.Native.Nat.{ℕ, ◌*◌, ◌≤◌, ◌<◌}
use native.Mathlib.Omega.{arith}
use lib.ListN.{length, length-replicate}
use Rattle.walk.specs.Units.{wide}
use Rattle.plan.specs.Plan.{count_limit}
use Rattle.plan.specs.declared.Plan.{Plan}
use Rattle.plan.proofs.PlaceLists.{over-get, join_length}
use Rattle.bucket_test.specs.Words.{part_at}
use Rattle.bucket_test.specs.Turn.{no_record, record_at}
use Rattle.bucket_test.proofs.PartLaws.{join_part}
use Rattle.little.proofs.FilledLaws.{filled-length}
use Rattle.saved_test.specs.Form.{live_count}
use Rattle.saved_test.specs.Reading.{record_in, part_in, state_in, words_in}

module _ (p : Plan) (bytes : List ℕ) where
  pub record_held : p.count ≤ count_limit → (i : ℕ) → i < p.count → record_at (state_in p bytes) i ≡ record_in bytes i
  unfolding state_in
  record_held few i l =
      over-get p.count (λ i _. record_in bytes i) _ i no_record l (rw length-replicate (omega (arith, few)))

  part_size : (i : ℕ) → length (part_in bytes p.count i) ≡ wide
  unfolding part_in
  part_size i = filled-length wide (live_count (record_in bytes i)) _

  pub part_held : (i : ℕ) → i < p.count → part_at i (words_in p bytes) ≡ part_in bytes p.count i
  unfolding words_in
  part_held i l = join_part (part_in bytes p.count) p.count (λ i l. part_size i) i l

  pub words_held : length (words_in p bytes) ≡ wide * p.count
  unfolding words_in
  words_held = join_length (part_in bytes p.count) wide p.count (λ i l. part_size i)

-- A beginning answers `open`: no bucket contains the whole, nothing is wide, and the horizon is not 0.
use mathlib.Core.Path.{◌≡◌, refl, sym, ◌∙◌}
use mathlib.Core.Bool.{false}
use Prim.Native.Nat.{ℕ, zero, suc, ◌<◌}
use native.Mathlib.Omega.{arith}
use lib.ListN.{get_or-replicate}
use Rattle.walk.specs.Units.{million}
use Rattle.walk.proofs.RecordLaws.{start_not_wide}
use Rattle.plan.specs.Places.{largest_to, smallest_to}
use Rattle.plan.specs.Plan.{right_at, Accepted}
use Rattle.bucket_choice.specs.Chosen.{Contains}
use Rattle.bucket_choice.proofs.ChoiceLaws.{named_nowhere}
use Rattle.bucket_test.specs.Turn.{start_record, no_record, record_at, wide_open}
use Rattle.bucket_test.specs.Answers.{low_of, high_of, any_wide, answer_of}
use Rattle.bucket_test.specs.Draw.{start_state}
use Rattle.plan.specs.declared.Plan.{Plan}
use Rattle.bucket_test.specs.declared.Answer.TheVariants.{Open}
use Rattle.plan.proofs.PlaceLaws.{eq?_fails, none_reads}
use Rattle.plan.proofs.AcceptedLaws.{permitted_le}
use Rattle.bucket_test.proofs.AnsweringLaws.{rule_of, open_yet}

largest_none : (n : ℕ) (f : ℕ → ℕ) → ((i : ℕ) → i < n → f i ≡ 0) → largest_to n f 0 ≡ 0
unfolding largest_to
largest_none zero f e = refl
largest_none (suc n) f e = rw (largest_none n f (λ i l. e i (omega arith)), e n (omega arith))

smallest_none : (n : ℕ) (f : ℕ → ℕ) (most : ℕ) → ((i : ℕ) → i < n → f i ≡ most) → smallest_to n f most ≡ most
unfolding smallest_to
smallest_none zero f most e = refl
smallest_none (suc n) f most e = rw (smallest_none n f most (λ i l. e i (omega arith)), e n (omega arith)) (omega arith)

module _ (p : Plan) (ok : Accepted p) where
  start_record_lem : (i : ℕ) → i < p.count → record_at start_state i ≡ start_record
  unfolding start_state
  start_record_lem i l = get_or-replicate 10 i start_record no_record (omega (arith, ok.count_range))

  start_low : low_of p start_state ≡ 0
  unfolding low_of start_record
  start_low = largest_none p.count _ (λ i l. rw (start_record_lem i l))

  start_high : high_of p start_state ≡ million
  unfolding high_of start_record
  start_high = smallest_none p.count _ million (λ i l. rw (start_record_lem i l))

  start_thin : any_wide p start_state ≡ false
  unfolding any_wide start_record
  start_thin = (none_reads (λ i. wide_open (record_at start_state i)) p.count).1 (λ i l. rw (start_record_lem i l) start_not_wide)

  -- an end is at most a million, so a bucket with left end 0 does not reach it
  none_contains : (j : ℕ) → ¬ Contains p 0 million j
  none_contains j h =
      ok.not_whole j h.inside
      (omega (arith, h.left_fits), omega (arith, h.right_fits, permitted_le p ok (right_at p j) (ok.ends_permitted j h.inside).1))

  pub start_open : answer_of p start_state ≡ Open
  unfolding start_state
  start_open =
      sym (open_yet p 0 million p.buckets false false (omega arith) (named_nowhere p 0 million none_contains) refl refl
      ∙ rule_of p start_state (sym start_low) (sym start_high) (sym start_thin) (sym (eq?_fails 0 p.horizon (λ e. omega (arith, ok.horizon_range, e)))))

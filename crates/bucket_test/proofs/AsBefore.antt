-- Two choices that name a containing bucket exactly where there is one differ in the bucket's number only (specs/AsBefore).
use mathlib.Core.Path.{◌≡◌, refl}
use mathlib.Core.Bool.{Bool, true, false}
use mathlib.Core.List.{List, [], ◌∷◌}
use Prim.Native.Nat.{ℕ, zero, suc}
use native.Mathlib.Omega.{arith}
use Rattle.walk.specs.Numbers.{lt?}
use Rattle.walk.proofs.Tests.{Le?, le, gt, test}
use Rattle.plan.specs.Places.{eq?}
use Rattle.plan.specs.Plan.{plan_refusal}
use Rattle.bucket_choice.specs.Choice.{Choice, chosen_bucket, first_bucket}
use Rattle.bucket_choice.specs.Chosen.{NamesContaining}
use Rattle.bucket_choice.proofs.Choices.{choices}
use Rattle.bucket_test.specs.Answers.{low_of, high_of, any_wide, first_that_fits, answer_over}
use Rattle.bucket_test.specs.Draw.{start_state, begin_refusal, begun_by, begun_over, draw_refusal_over, next_state, drawn_by, drawn_over, report_by, report_over}
use Rattle.bucket_test.specs.Carried.{carried_over}
use Rattle.bucket_test.specs.AsBefore.{SameAnswer, SameReport, SameOutcome, AnyChoiceTheorem, AsBeforeTheorem}
use Rattle.bucket_test.specs.declared.State.{State}
use Rattle.plan.specs.declared.Plan.{Plan}
use Rattle.bucket_test.specs.declared.Answer.{Answer}
use Rattle.bucket_test.proofs.AnsweringLaws.{rule_with}

same : (a : Answer) → SameAnswer a a
same a = record { number_same = refl; word_same = refl; ending_same = refl }

-- the rule tests whether a bucket is named, and hands its number on
same_fits : (c named : Bool) (i j : ℕ) (w e : Bool) → SameAnswer (first_that_fits c named i w e) (first_that_fits c named j w e)
same_fits true named i j w e = same _
same_fits false true i j w e = record { number_same = refl; word_same = refl; ending_same = refl }
same_fits false false i j true e = same _
same_fits false false i j false true = same _
same_fits false false i j false false = same _

module _ (p : Plan) (one other : Choice) (a : NamesContaining one p) (b : NamesContaining other p) where
  -- where the one names a bucket, the other does
  named_same : (low high : ℕ) → lt? (one p low high) p.buckets ≡ lt? (other p low high) p.buckets
  named_same low high = go (test (suc (one p low high)) p.buckets) (test (suc (other p low high)) p.buckets)
    where
      go : {x y : Bool} → Le? (suc (one p low high)) p.buckets x → Le? (suc (other p low high)) p.buckets y → x ≡ y
      go (le h) (le k) = refl
      go (le h) (gt k) = absurd (omega (arith, b.some_named low high _ (a.named low high h)))
      go (gt h) (le k) = absurd (omega (arith, a.some_named low high _ (b.named low high k)))
      go (gt h) (gt k) = refl

  answer_same : (s : State) → SameAnswer (answer_over one p s) (answer_over other p s)
  answer_same s =
      rw (rule_with one p s, rule_with other p s, named_same (low_of p s) (high_of p s))
      (same_fits (lt? (high_of p s) (low_of p s)) (lt? (other p (low_of p s) (high_of p s)) p.buckets) _ _ (any_wide p s) (eq? s.n p.horizon))

  report_same : (s : State) → SameReport (report_over one p s) (report_over other p s)
  unfolding report_over
  report_same s = go (plan_refusal p)
    where
      go : (r : ℕ) → SameReport (report_by one r p s) (report_by other r p s)
      go zero = record { answer_same = answer_same s; low_same = refl; high_same = refl }
      go (suc r) = record { answer_same = same _; low_same = refl; high_same = refl }

  begun_same : (words : List ℕ) → SameOutcome (begun_over one p words) (begun_over other p words)
  unfolding begun_over
  begun_same words = go (begin_refusal p words)
    where
      go : (r : ℕ) → SameOutcome (begun_by one r p words) (begun_by other r p words)
      go zero = record { answer_same = answer_same start_state; state_same = refl; words_same = refl }
      go (suc r) = record { answer_same = same _; state_same = refl; words_same = refl }

  refusal_same : (s : State) (words : List ℕ) (d : ℕ)
      → draw_refusal_over one p s words d ≡ draw_refusal_over other p s words d
  unfolding draw_refusal_over
  refusal_same s words d = rw (answer_same s).ending_same

  drawn_same : (s : State) (words : List ℕ) (d : ℕ) → SameOutcome (drawn_over one p s words d) (drawn_over other p s words d)
  unfolding drawn_over
  drawn_same s words d = rw (refusal_same s words d) (go (draw_refusal_over other p s words d))
    where
      go : (r : ℕ) → SameOutcome (drawn_by one r p s words d) (drawn_by other r p s words d)
      go zero = record { answer_same = answer_same (next_state p s words d); state_same = refl; words_same = refl }
      go (suc r) = record { answer_same = same _; state_same = refl; words_same = refl }

  carried_same : (words ds : List ℕ) → SameOutcome (carried_over one p words ds) (carried_over other p words ds)
  unfolding carried_over
  carried_same words [] = begun_same words
  carried_same words (d ∷ ds) =
      let h = carried_same words ds in
      rw (h.state_same, h.words_same)
      (drawn_same (carried_over other p words ds).state (carried_over other p words ds).words d)

pub any_choice : AnyChoiceTheorem
any_choice p one other a b = record {
  answers = answer_same p one other a b;
  reports = report_same p one other a b;
  draws = drawn_same p one other a b;
  carries = carried_same p one other a b;
}

pub as_before : AsBeforeTheorem
as_before p = any_choice p chosen_bucket first_bucket (choices p).chosen_names (choices p).first_names

-- What a refusal hands back (specs/Refused).
use mathlib.Core.Path.{◌≡◌, refl}
use mathlib.Core.List.{List}
use Prim.Native.Nat.{ℕ, zero, suc}
use Rattle.plan.specs.declared.Plan.{Plan}
use Rattle.bucket_choice.specs.Choice.{chosen_bucket}
use Rattle.bucket_test.specs.Answers.{refusal_of}
use Rattle.bucket_test.specs.Draw.{no_state, begin_refusal, begun_by, begun_over, draw_refusal, next_state, drawn_by, drawn_over, drawn}
use Rattle.bucket_test.specs.Refused.{RefusedBeginning, RefusedDraw}
use Rattle.bucket_test.specs.declared.State.{State}
use Rattle.bucket_test.specs.declared.Answer.TheVariants.{Refused}
use Rattle.bucket_test.proofs.AnsweringLaws.{rule_answers}

pub refused-beginning : RefusedBeginning
unfolding begun_over
refused-beginning p words = go (begin_refusal p words)
  where
    go : (r : ℕ) → ¬ (r ≡ 0) → begun_by chosen_bucket r p words ≡ record { answer = Refused r; state = no_state; words = words }
    go zero e = absurd (e refl)
    go (suc r) e = refl

pub refused_draw : RefusedDraw
unfolding drawn_over
refused_draw p s words d = go (draw_refusal p s words d)
  where
    go : (r : ℕ) → ¬ (r ≡ 0) → drawn_by chosen_bucket r p s words d ≡ record { answer = Refused r; state = s; words = words }
    go zero e = absurd (e refl)
    go (suc r) e = refl

-- by the answer: the answer rule refuses nothing
pub refused_stays : (p : Plan) (s : State) (words : List ℕ) (d : ℕ) → ¬ (refusal_of (drawn p s words d).answer ≡ 0)
    → ((drawn p s words d).state ≡ s) × ((drawn p s words d).words ≡ words)
unfolding drawn_over
refused_stays p s words d = go (draw_refusal p s words d)
  where
    go : (r : ℕ) → ¬ (refusal_of (drawn_by chosen_bucket r p s words d).answer ≡ 0)
        → ((drawn_by chosen_bucket r p s words d).state ≡ s) × ((drawn_by chosen_bucket r p s words d).words ≡ words)
    go zero e = absurd (e (rule_answers p (next_state p s words d)))
    go (suc r) e = (refl, refl)

-- What a refusal hands back (rules 8.3): its number, the state that was given, and every word as it was; of a beginning no state. Definitions
-- only.
use Rattle.std.specs.Prelude.{◌≡◌, List, ℕ}
use Rattle.plan.specs.declared.Plan.{Plan}
use Rattle.bucket_test.specs.Draw.{no_state, begin_refusal, begun, draw_refusal, drawn}
use Rattle.bucket_test.specs.declared.State.{State}
use Rattle.bucket_test.specs.declared.Answer.TheVariants.{Refused}

abbrev pub RefusedBeginning : Type 0
RefusedBeginning = (p : Plan) (words : List ℕ) → ¬ (begin_refusal p words ≡ 0)
    → begun p words ≡ record { answer = Refused (begin_refusal p words); state = no_state; words = words }

abbrev pub RefusedDraw : Type 0
RefusedDraw = (p : Plan) (s : State) (words : List ℕ) (d : ℕ) → ¬ (draw_refusal p s words d ≡ 0)
    → drawn p s words d ≡ record { answer = Refused (draw_refusal p s words d); state = s; words = words }

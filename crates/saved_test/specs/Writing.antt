-- Writing a test into lent bytes (saved 2).
use Rattle.std.specs.Prelude.{List, [], ◌∷◌, ◌++◌, ℕ, zero, suc, length, drop, Result, Ok, Err}
use Rattle.walk.specs.Numbers.{le?}
use Rattle.refusals.specs.Refusals.{number_of, unless, first_refusal}
use Rattle.refusals.specs.declared.Refusal.{Refusal}
use Rattle.plan.specs.Plan.{plan_refusal}
use Rattle.plan.specs.declared.Plan.{Plan}
use Rattle.bucket_test.specs.Words.{words_fit}
use Rattle.bucket_test.specs.Draw.{state_sound}
use Rattle.bucket_test.specs.declared.State.{State}
use Rattle.saved_test.specs.Form.{saved_size, saved_form}

-- the number of bytes written, or the number of the refusal, 0 for none
pub record Saved : Type 0 where
  pub refusal : ℕ
  pub size : ℕ

abbrev pub saved_as : Result ℕ Refusal → Saved
saved_as (Ok n) = record { refusal = 0; size = n }
saved_as (Err r) = record { refusal = number_of r; size = 0 }

module _ (p : Plan) (s : State) (words : List ℕ) where
  -- of a test that is to be saved: plan, 8, 11
  unfoldable pub save_refusal : ℕ
  save_refusal = first_refusal (plan_refusal p ∷ unless (words_fit p words) 8 ∷ unless (state_sound p s words) 11 ∷ [])

  -- then 12 for too few bytes
  unfoldable pub write_refusal : List ℕ → ℕ
  write_refusal bytes = first_refusal (save_refusal ∷ unless (le? (saved_size p s) (length bytes)) 12 ∷ [])

  -- what is handed back, and the lent bytes: those after the form keep their contents
  abbrev pub saved_by : ℕ → Saved
  saved_by zero = record { refusal = 0; size = saved_size p s }
  saved_by (suc r) = record { refusal = suc r; size = 0 }

  abbrev pub bytes_by : ℕ → List ℕ → List ℕ
  bytes_by zero bytes = saved_form p s words ++ drop (saved_size p s) bytes
  bytes_by (suc r) bytes = bytes

  unfoldable pub saved : List ℕ → Saved
  saved bytes = saved_by (write_refusal bytes)

  unfoldable pub bytes_after : List ℕ → List ℕ
  bytes_after bytes = bytes_by (write_refusal bytes) bytes

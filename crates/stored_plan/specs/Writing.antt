-- Writing a plan into lent bytes (rules 2.3).
use Rattle.std.specs.Prelude.{List, [], ◌∷◌, ◌++◌, ℕ, zero, suc, length, drop, Result, Ok, Err}
use Rattle.walk.specs.Numbers.{le?}
use Rattle.plan.specs.Places.{eq?}
use Rattle.refusals.specs.Refusals.{number_of, unless, first_refusal}
use Rattle.refusals.specs.declared.Refusal.{Refusal}
use Rattle.plan.specs.Plan.{plan_refusal}
use Rattle.plan.specs.declared.Plan.{Plan}
use Rattle.stored_plan.specs.Form.{form_size, encoded}

-- the plan's refusals, then 17 for points, of which the form has none, then 12 for too few bytes
unfoldable pub write_refusal : Plan → List ℕ → ℕ
write_refusal p bytes =
    first_refusal (plan_refusal p ∷ unless (eq? p.points 0) 17 ∷ unless (le? (form_size p.count p.buckets) (length bytes)) 12 ∷ [])

-- the number of bytes written, or the number of the refusal, 0 for none
pub record Written : Type 0 where
  pub refusal : ℕ
  pub size : ℕ

-- what is handed back, and the lent bytes: those after the form keep their contents
abbrev pub written_by : ℕ → Plan → Written
written_by zero p = record { refusal = 0; size = form_size p.count p.buckets }
written_by (suc r) p = record { refusal = suc r; size = 0 }

abbrev pub bytes_by : ℕ → Plan → List ℕ → List ℕ
bytes_by zero p bytes = encoded p ++ drop (form_size p.count p.buckets) bytes
bytes_by (suc r) p bytes = bytes

unfoldable pub written : Plan → List ℕ → Written
written p bytes = written_by (write_refusal p bytes) p

unfoldable pub bytes_after : Plan → List ℕ → List ℕ
bytes_after p bytes = bytes_by (write_refusal p bytes) p bytes

-- what code hands back, as such a record
abbrev pub written_as : Result ℕ Refusal → Written
written_as (Ok n) = record { refusal = 0; size = n }
written_as (Err r) = record { refusal = number_of r; size = 0 }

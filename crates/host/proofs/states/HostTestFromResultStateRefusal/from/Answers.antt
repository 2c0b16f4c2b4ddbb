-- A reading by its cases.
use mathlib.Core.Path.{◌≡◌, refl}
use Prim.Native.Nat.{ℕ}
use native.Mathlib.Omega.{arith}
use Rattle.std.specs.Prelude.{Result, Ok, Err}
use Rattle.std.specs.Result.{result_unwrap_or}
use Rattle.refusals.specs.Refusals.{refusal_in}
use Rattle.refusals.specs.declared.Refusal.{Refusal}
use Rattle.bucket_test.specs.Draw.{no_state}
use Rattle.bucket_test.specs.declared.State.{State}
use Rattle.saved_test.specs.Reading.{loaded_as}
use Rattle.host.specs.States.{loaded_out}
use Rattle.host.proofs.states.HostTestFromResultStateRefusal.from.Goals as goal

-- the number of the refusal, however it is written
out : {n : ℕ} (r : Result State Refusal) → n ≡ refusal_in r
    → loaded_out (record { refusal = n; state = result_unwrap_or r no_state }) ≡ loaded_out (loaded_as r)
out (Ok s) e = rw e refl
out (Err r) e = rw e refl

pub returns : goal.returns
unfolding loaded_out no_state
returns c =
    rw (c.records_out.ensures, c.unwrap_or-s.ensures, c.ten_of.ensures, c.no_walked.ensures)
    (out c.args.r (omega (arith, c.refusal_of-refusal.ensures)))

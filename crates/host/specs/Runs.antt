-- A run as it comes in, and with its answer as it goes out, field by field. How an answer would come in again is for `Kept` only, which says that
-- nothing is lost.
use Rattle.std.specs.Prelude.{ℕ, zero, suc}
use Rattle.counting.specs.Run.{kind_of, first_of, second_of}
use Rattle.counting.specs.declared.Run.{Run}
use Rattle.counting.specs.declared.Drawn.{Drawn}
use Rattle.counting.specs.declared.Answer.{Answer}
use Rattle.counting.specs.declared.Answer.TheVariants.{Open, Ended, Refused}
use Rattle.host.specs.declared.HostRun.{HostRun}

abbrev pub run_in : HostRun → Run
run_in r = record { stop = r.stop; size = r.size; taken = r.taken; ones = r.ones }

unfoldable pub run_out : Drawn → HostRun
run_out o = record {
  answer = kind_of o.answer;
  first = first_of o.answer;
  second = second_of o.answer;
  stop = o.run.stop;
  size = o.run.size;
  taken = o.run.taken;
  ones = o.run.ones;
}

abbrev pub answer_in : ℕ → ℕ → ℕ → Answer
answer_in zero first second = Open
answer_in (suc zero) first second = Ended first second
answer_in (suc (suc kind)) first second = Refused first

unfoldable pub drawn_in : HostRun → Drawn
drawn_in r = record { answer = answer_in r.answer r.first r.second; run = run_in r }

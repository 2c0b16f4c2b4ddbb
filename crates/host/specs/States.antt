-- A state as it comes in, and states and answers as they go out, field by field. An enum is two numbers: its case, and what the case holds. How an
-- answer would come in again is for `Kept` only, which says that nothing is lost.
use Rattle.std.specs.Prelude.{map, ℕ, zero, suc}
use Rattle.walk.specs.declared.Mark.{Mark}
use Rattle.walk.specs.declared.Mark.TheVariants.{Open, Above, AtMost}
use Rattle.bucket_test.specs.declared.Answer.{Answer}
use Rattle.bucket_test.specs.declared.Answer.TheVariants as answers
use Rattle.bucket_test.specs.declared.Threshold.{Threshold}
use Rattle.bucket_test.specs.declared.State.{State}
use Rattle.bucket_test.specs.declared.Drawn.{Drawn}
use Rattle.bucket_test.specs.declared.Report.{Report}
use Rattle.saved_test.specs.Form.{mark_code, mark_step}
use Rattle.host.specs.declared.HostRecord.{HostRecord}
use Rattle.host.specs.declared.HostState.{HostState}
use Rattle.saved_test.specs.Reading.{Loaded}
use Rattle.host.specs.declared.HostTest.{HostTest}
use Rattle.host.specs.declared.HostReport.{HostReport}

-- ---- a mark, which goes out by the numbers of the saved form: 1 above and 2 at most, at a step, any other number open

abbrev pub mark_in : ℕ → ℕ → Mark
mark_in zero step = Open
mark_in (suc zero) step = Above step
mark_in (suc (suc zero)) step = AtMost step
mark_in (suc (suc (suc m))) step = Open

-- ---- an answer: 0 open, 1 decided, 2 crossed, 3 wide, 4 spent, any other number refused, and the number of the bucket or of the refusal

abbrev pub answer_in : ℕ → ℕ → Answer
answer_in zero number = answers.Open
answer_in (suc zero) number = answers.Decided number
answer_in (suc (suc zero)) number = answers.Crossed
answer_in (suc (suc (suc zero))) number = answers.Wide
answer_in (suc (suc (suc (suc zero)))) number = answers.Spent
answer_in (suc (suc (suc (suc (suc c))))) number = answers.Refused number

abbrev pub answer_case : Answer → ℕ
answer_case answers.Open = 0
answer_case (answers.Decided b) = 1
answer_case answers.Crossed = 2
answer_case answers.Wide = 3
answer_case answers.Spent = 4
answer_case (answers.Refused r) = 5

abbrev pub answer_number : Answer → ℕ
answer_number answers.Open = 0
answer_number (answers.Decided b) = b
answer_number answers.Crossed = 0
answer_number answers.Wide = 0
answer_number answers.Spent = 0
answer_number (answers.Refused r) = r

-- ---- a state

abbrev pub record_in : HostRecord → Threshold
record_in r = record {
  mark = mark_in r.mark r.step;
  walked = record { lower = r.lower; upper = r.upper; over = r.over; under = r.under; rounded = r.rounded };
}

abbrev pub record_out : Threshold → HostRecord
record_out t = record {
  mark = mark_code t.mark;
  step = mark_step t.mark;
  lower = t.walked.lower;
  upper = t.walked.upper;
  over = t.walked.over;
  under = t.walked.under;
  rounded = t.walked.rounded;
}

abbrev pub state_in : HostState → State
state_in s = record { n = s.n; ones = s.ones; records = map record_in s.records }

unfoldable pub drawn_in : HostState → Drawn
drawn_in s = record { answer = answer_in s.answer s.number; state = state_in s }

unfoldable pub drawn_out : Drawn → HostState
drawn_out d = record {
  answer = answer_case d.answer;
  number = answer_number d.answer;
  n = d.state.n;
  ones = d.state.ones;
  records = map record_out d.state.records;
}

unfoldable pub loaded_out : Loaded → HostTest
loaded_out l = record { refusal = l.refusal; n = l.state.n; ones = l.state.ones; records = map record_out l.state.records }

abbrev pub report_out : Report → HostReport
report_out r = record { answer = answer_case r.answer; number = answer_number r.answer; low = r.low; high = r.high }

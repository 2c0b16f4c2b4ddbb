-- What goes out and comes in again is the same outcome: no two cases of an enum share a number.
use mathlib.Core.Path.{◌≡◌, refl}
use mathlib.Core.List.{List, [], ◌∷◌, map}
use Rattle.walk.specs.declared.Mark.{Mark}
use Rattle.walk.specs.declared.Mark.TheVariants.{Open, Above, AtMost}
use Rattle.bucket_test.specs.declared.Answer.{Answer}
use Rattle.bucket_test.specs.declared.Answer.TheVariants as answers
use Rattle.bucket_test.specs.declared.Threshold.{Threshold}
use Rattle.bucket_test.specs.declared.Drawn.{Drawn}
use Rattle.counting.specs.Run.{kind_of, first_of, second_of}
use Rattle.counting.specs.declared.Drawn.{Drawn as Counted}
use Rattle.counting.specs.declared.Answer.{Answer as Count}
use Rattle.counting.specs.declared.Answer.TheVariants as counts
use Rattle.saved_test.specs.Form.{mark_code, mark_step}
use Rattle.host.specs.States.{mark_in, answer_in, answer_case, answer_number, record_in, record_out, drawn_in, drawn_out}
use Rattle.host.specs.Runs as runs
use Rattle.host.specs.Runs.{run_out}

mark-kept : (m : Mark) → mark_in (mark_code m) (mark_step m) ≡ m
mark-kept Open = refl
mark-kept (Above t) = refl
mark-kept (AtMost t) = refl

answer_kept : (a : Answer) → answer_in (answer_case a) (answer_number a) ≡ a
answer_kept answers.Open = refl
answer_kept (answers.Decided b) = refl
answer_kept answers.Crossed = refl
answer_kept answers.Wide = refl
answer_kept answers.Spent = refl
answer_kept (answers.Refused r) = refl

records_kept : (ts : List Threshold) → map record_in (map record_out ts) ≡ ts
records_kept [] = refl
records_kept (t ∷ ts) = rw (mark-kept t.mark, records_kept ts) refl

pub kept : (d : Drawn) → drawn_in (drawn_out d) ≡ d
unfolding drawn_in drawn_out
kept d = rw (answer_kept d.answer, records_kept d.state.records) refl

-- ---- a run of counting

run_answer_kept : (a : Count) → runs.answer_in (kind_of a) (first_of a) (second_of a) ≡ a
run_answer_kept counts.Open = refl
run_answer_kept (counts.Ended a b) = refl
run_answer_kept (counts.Refused r) = refl

pub run_kept : (o : Counted) → runs.drawn_in (run_out o) ≡ o
unfolding runs.drawn_in run_out
run_kept o = rw (run_answer_kept o.answer) refl

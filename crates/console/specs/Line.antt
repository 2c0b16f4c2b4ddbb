-- The line that is printed (rules 9.2).
use Rattle.std.specs.Prelude.{◌≡◌, List, [], ◌∷◌, ◌++◌, ℕ, ◌+◌, ◌^◌, length}
use Rattle.io.specs.Digits.{last_digits}
use Rattle.walk.specs.Numbers.{lt?, search_up}
use Rattle.bucket_test.specs.Answers.{Values, word_of, values_of}
use Rattle.bucket_test.specs.Draw.{report}
use Rattle.bucket_test.specs.declared.State.{State}
use Rattle.plan.specs.declared.Plan.{Plan}
use Rattle.bucket_test.specs.declared.Drawn.{Drawn}
use Rattle.bucket_test.specs.declared.Report.{Report}
use Rattle.bucket_test.specs.declared.Answer.{Answer}
use Rattle.bucket_test.specs.declared.Answer.TheVariants.{Open, Decided, Crossed, Wide, Spent, Refused}
use Rattle.little.specs.Little.{put_at}
use Rattle.console.specs.Ascii.{newline, space}

-- how many digits a number below 10^20 has
unfoldable pub digit_count : ℕ → ℕ
digit_count n = search_up 19 1 (λ k. lt? n (10 ^ k))

-- .. and they, in ASCII, with no zero in front
unfoldable pub decimal : ℕ → List ℕ
decimal n = last_digits 10 (digit_count n) n

-- `refused`, the number, a newline
unfoldable pub refused_line : ℕ → List ℕ
refused_line number = word_of (Refused number) ++ (space ∷ decimal number) ++ (newline ∷ [])

-- the answer, bucket number, n, S, low, high, a newline
unfoldable pub values_line : Values → List ℕ
values_line v =
    v.word
    ++ (space ∷ decimal v.bucket)
    ++ (space ∷ decimal v.n)
    ++ (space ∷ decimal v.ones)
    ++ (space ∷ decimal v.low)
    ++ (space ∷ decimal v.high)
    ++ (newline ∷ [])

abbrev pub line_by : Answer → Values → List ℕ
line_by (Refused r) v = refused_line v.number
line_by Open v = values_line v
line_by (Decided b) v = values_line v
line_by Crossed v = values_line v
line_by Wide v = values_line v
line_by Spent v = values_line v

-- the line of a report on a state
unfoldable pub line_of : State → Report → List ℕ
line_of s r = line_by r.answer (values_of s r)

-- the line of an outcome: its answer, and n, S and interval of its state
unfoldable pub line_after : Plan → Drawn → List ℕ
line_after p d = line_of d.state (record { answer = d.answer; low = (report p d.state).low; high = (report p d.state).high })

-- ---- the buffer of a line, every byte of it

-- bytes put at a place, the place behind them, and the other bytes as they were
pub record Puts (bytes : List ℕ) (at next : ℕ) (before after : List ℕ) : Type 0 where
  pub behind : next ≡ at + length bytes
  pub whole : after ≡ put_at at bytes before

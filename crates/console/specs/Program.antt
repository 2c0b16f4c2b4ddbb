-- The program between what is read and what is printed (rules 9). Which draws the system hands over no contract can say: the claims are of
-- some text.
use Rattle.std.specs.Prelude.{◌≡◌, Bool, true, false, List, ◌++◌, ℕ, zero, suc, ◌*◌, length, take, drop}
use Rattle.std.specs.declared.ops.ControlFlow.{ControlFlow}
use Rattle.std.specs.declared.ops.ControlFlow.TheVariants.{Continue, Break}
use Rattle.walk.specs.Numbers.{le?}
use Rattle.walk.specs.Units.{wide}
use Rattle.bucket_test.specs.Draw.{Outcome, drawn_of, outcome_of, begun}
use Rattle.plan.specs.declared.Plan.{Plan}
use Rattle.bucket_test.specs.declared.Drawn.{Drawn}
use Rattle.stored_plan.specs.Reading.{decoded}
use Rattle.console.specs.Input.{draws_of}
use Rattle.console.specs.Line.{refused_line, line_after, Puts}
use Rattle.console.specs.Run.{ran}

-- d and words are what the test o comes to when it is fed some text
pub record ComesTo (p : Plan) (o : Outcome) (d : Drawn) (words : List ℕ) : Type 0 where
  pub text : List ℕ
  pub outcome : outcome_of d words ≡ ran p o (draws_of text)

-- where a read left the test, and whether another follows
abbrev pub reached : ControlFlow Drawn Drawn → Drawn
reached (Continue d) = d
reached (Break d) = d

abbrev pub goes_on : ControlFlow Drawn Drawn → Bool
goes_on (Continue d) = true
goes_on (Break d) = false

-- what is printed, and the lent words then
pub record Printed : Type 0 where
  pub line : List ℕ
  pub words : List ℕ

-- a test on these words, from its beginning over a text
unfoldable pub played : Plan → List ℕ → List ℕ → Printed
played p words text = let o = ran p (begun p words) (draws_of text) in record { line = line_after p (drawn_of o); words = o.words }

-- .. on the first 769 words for each threshold; 8 where there are fewer
abbrev pub lent_by : Bool → Plan → List ℕ → List ℕ → Printed
lent_by true p words text = let r = played p (take (wide * p.count) words) text in record { line = r.line; words = r.words ++ drop (wide * p.count) words }
lent_by false p words text = record { line = refused_line 8; words = words }

abbrev pub served_by : ℕ → Plan → List ℕ → List ℕ → Printed
served_by zero p words text = lent_by (le? (wide * p.count) (length words)) p words text
served_by (suc r) p words text = record { line = refused_line (suc r); words = words }

-- the program on a stored plan, lent words and a text
unfoldable pub served : List ℕ → List ℕ → List ℕ → Printed
served stored words text = served_by (decoded stored).refusal (decoded stored).plan words text

-- the buffer begins with a line of n bytes, and these are the words, for some text
pub record Prints (printed : List ℕ → Printed) (n : ℕ) (words before after : List ℕ) : Type 0 where
  pub text : List ℕ
  pub line_is : Puts (printed text).line 0 n before after
  pub words_are : words ≡ (printed text).words

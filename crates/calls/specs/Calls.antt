-- The two calls from C, over bytes and numbers only (saved 6).
use Rattle.std.specs.Prelude.{List, [], ◌∷◌, ◌++◌, ℕ, zero, suc, ◌+◌, ◌*◌, length, drop, replicate}
use Rattle.walk.specs.Numbers.{le?}
use Rattle.walk.specs.Units.{wide}
use Rattle.refusals.specs.Refusals.{unless, first_refusal}
use Rattle.plan.specs.declared.Plan.{Plan}
use Rattle.bucket_test.specs.Draw.{Outcome, begun, draw_refusal, drawn}
use Rattle.bucket_test.specs.declared.Answer.{Answer}
use Rattle.bucket_test.specs.declared.Answer.TheVariants.{Open, Decided, Crossed, Wide, Spent, Refused}
use Rattle.stored_plan.specs.Reading.{decoded}
use Rattle.saved_test.specs.Form.{saved_size, saved_form}
use Rattle.saved_test.specs.Reading.{state_in, words_in, form_fits}

-- the number of each case of an answer
abbrev pub answer_number : Answer → ℕ
answer_number Open = 100
answer_number (Decided b) = 100 + b
answer_number Crossed = 120
answer_number Wide = 130
answer_number Spent = 140
answer_number (Refused r) = r

-- what a call returns, and the lent bytes
pub record Called : Type 0 where
  pub number : ℕ
  pub bytes : List ℕ

-- the outcome of a test under a plan, whose new form is put into lent bytes: refused by 12 where they are too few ..
abbrev pub room_refusal : Plan → Outcome → List ℕ → ℕ
room_refusal p o lent = unless (le? (saved_size p o.state) (length lent)) 12

-- .. and by the first refusal: the answer's number and the form, the bytes after it as they were; or the refusal's, and all bytes as they were
abbrev pub called_by : ℕ → Plan → Outcome → List ℕ → Called
called_by zero p o lent = record { number = answer_number o.answer; bytes = saved_form p o.state o.words ++ drop (saved_size p o.state) lent }
called_by (suc r) p o lent = record { number = suc r; bytes = lent }

-- ---- under a plan that was read from plan bytes with the refusal r, 0 for none

-- the call's own words, of the right number: a beginning writes them all
abbrev pub own_words : Plan → List ℕ
own_words p = replicate (wide * p.count) 0

-- a beginning: r, 12
abbrev pub begun_on : ℕ → Plan → List ℕ → Called
begun_on r p lent =
    let o = begun p (own_words p) in
    called_by (first_refusal (r ∷ room_refusal p o lent ∷ [])) p o lent

-- a draw to the test that saved bytes hold: r, 15, then 9, 10, 11, then 12; plan and 8, which a draw judges too, never apply here: the plan was read,
-- and `words_in` has the right number of words
abbrev pub drawn_on : ℕ → Plan → List ℕ → ℕ → List ℕ → Called
drawn_on r p saved d lent =
    let s = state_in p saved in
    let words = words_in p saved in
    let o = drawn p s words d in
    called_by (first_refusal (r ∷ unless (form_fits p saved) 15 ∷ draw_refusal p s words d ∷ room_refusal p o lent ∷ [])) p o lent

-- ---- the calls

unfoldable pub called_begin : List ℕ → List ℕ → Called
called_begin planBytes lent = begun_on (decoded planBytes).refusal (decoded planBytes).plan lent

unfoldable pub called_draw : List ℕ → List ℕ → ℕ → List ℕ → Called
called_draw planBytes saved d lent = drawn_on (decoded planBytes).refusal (decoded planBytes).plan saved d lent

-- Tests that are read back go on as the tests that were written (saved 4). Lists are latest first, as in bucket_test/specs/Carried.
use Rattle.std.specs.Prelude.{◌≡◌, List, [], ◌∷◌, ℕ}
use Rattle.bucket_test.specs.Answers.{answer_of}
use Rattle.bucket_test.specs.Draw.{Outcome, drawn}
use Rattle.plan.specs.declared.Plan.{Plan}
use Rattle.bucket_test.specs.declared.State.{State}
use Rattle.saved_test.specs.Form.{saved_form}
use Rattle.saved_test.specs.Alike.{Alike}
use Rattle.saved_test.specs.RoundTrip.{Savable}
use Rattle.saved_test.specs.Reading.{state_in, words_in}

-- a test after a list of draws, the latest first
unfoldable pub drawn_after : Plan → Outcome → List ℕ → Outcome
drawn_after p o [] = o
drawn_after p o (d ∷ ds) = drawn p (drawn_after p o ds).state (drawn_after p o ds).words d

-- a test as it stands
abbrev pub as_it_stands : Plan → State → List ℕ → Outcome
as_it_stands p s words = record { answer = answer_of p s; state = s; words = words }

-- two outcomes: the same answer, and tests that are alike
pub record AlikeAfter (p : Plan) (o o' : Outcome) : Type 0 where
  pub answer_same : o'.answer ≡ o.answer
  pub alike : Alike p o.state o.words o'.state o'.words

-- tests that are alike go on alike ..
abbrev pub Simulation : Type 0
Simulation = (p : Plan) (o o' : Outcome) → AlikeAfter p o o' → (ds : List ℕ) → AlikeAfter p (drawn_after p o ds) (drawn_after p o' ds)

-- .. so a test that was read back gives the same answers, and the same n, S and first K records, as the test that was written: of every test
-- that a writing accepts, carried or not, and every list of draws
abbrev pub EverAfter : Type 0
EverAfter = (p : Plan) (s : State) (words : List ℕ) → Savable p s words → (ds : List ℕ)
    → AlikeAfter p (drawn_after p (as_it_stands p s words) ds)
    (drawn_after p (as_it_stands p (state_in p (saved_form p s words)) (words_in p (saved_form p s words))) ds)

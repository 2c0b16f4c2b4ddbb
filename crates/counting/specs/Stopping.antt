-- The stopping rule (rules 13.4): what is claimed of a run over a whole list of draws, of any value, in the order of time. Definitions only.
use Rattle.std.specs.Prelude.{◌≡◌, ◌↔◌, Bool, true, false, List, [], ◌∷◌, ◌++◌, ℕ, ◌+◌, ◌-◌, ◌<◌, length}
use Rattle.counting.specs.Tests.{eq?, how_many}
use Rattle.counting.specs.Run.{run_of, begun, drawn, is_ending}
use Rattle.counting.specs.OneCall.{InRange, Bit, Answers}
use Rattle.counting.specs.declared.Run.{Run}
use Rattle.counting.specs.declared.Answer.{Answer}
use Rattle.counting.specs.declared.Answer.TheVariants.{Open, Ended, Refused}

-- ---- a run over a list of draws, each handed what the one before handed on

unfoldable pub after : Run → List ℕ → Run
after r [] = r
after r (d ∷ ds) = after (drawn r d).run ds

-- the draws taken: those that are not refused
abbrev pub taken_by : Answer → ℕ → List ℕ → List ℕ
taken_by Open d s = d ∷ s
taken_by (Ended a b) d s = d ∷ s
taken_by (Refused k) d s = s

unfoldable pub draws_taken : Run → List ℕ → List ℕ
draws_taken r [] = []
draws_taken r (d ∷ ds) = taken_by (drawn r d).answer d (draws_taken (drawn r d).run ds)

-- the answer that ended the run; open where none has
abbrev pub or_later : Answer → Answer → Answer
or_later Open a = a
or_later (Ended a b) later = Ended a b
or_later (Refused k) a = a

unfoldable pub ending : Run → List ℕ → Answer
ending r [] = Open
ending r (d ∷ ds) = or_later (drawn r d).answer (ending (drawn r d).run ds)

abbrev pub ones : List ℕ → ℕ
ones s = how_many (eq? 1) s

-- ---- the claim

module _ (h n : ℕ) where
  -- the answer a to the draw d, where s are the draws taken before it and `ended` says whether one of them ended the run: refused by 9 exactly when d
  -- is neither 0 nor 1, else by 10 exactly when one had. Else d is taken: no draw of s was the h-th one or draw n - 1, and the answer is that of
  -- one draw more, with its ones
  pub record AnswersDraw (s : List ℕ) (ended : Bool) (d : ℕ) (a : Answer) : Type 0 where
    pub by_9 : (a ≡ Refused 9) ↔ (¬ (Bit d))
    pub by_10 : (a ≡ Refused 10) ↔ (Bit d × (ended ≡ true))
    pub else_taken : Bit d → ended ≡ false → (ones s < h) × (length s < n - 1) × Answers h n (length s + 1) (ones s + d) a

  -- the beginning is open, and each draw of the list is so answered; the run handed on holds how many draws were taken and how many ones are among
  -- them; the answer that ended the run, if any, is the one to these numbers
  pub record StopRule (ds : List ℕ) : Type 0 where
    pub begins : (begun h n).answer ≡ Open
    pub answered : (before : List ℕ) (d : ℕ) (later : List ℕ) → ds ≡ before ++ (d ∷ later)
        → AnswersDraw (draws_taken (begun h n).run before) (is_ending (ending (begun h n).run before)) d (drawn (after (begun h n).run before) d).answer
    pub stands : after (begun h n).run ds ≡ run_of h n (length (draws_taken (begun h n).run ds)) (ones (draws_taken (begun h n).run ds))
    pub ends : Answers h n (length (draws_taken (begun h n).run ds)) (ones (draws_taken (begun h n).run ds)) (ending (begun h n).run ds)

-- of every h and n in range, and every list
abbrev pub StopTheorem : Type 0
StopTheorem = (h n : ℕ) → InRange h n → (ds : List ℕ) → StopRule h n ds

-- Refusals by their numbers, and their order (rules 8.1, 8.2).
use Rattle.std.specs.Prelude.{Bool, true, false, List, [], ◌∷◌, ℕ, zero, suc, Result, Ok, Err}
use Rattle.refusals.specs.declared.Refusal.{Refusal}
use Rattle.refusals.specs.declared.Refusal.TheVariants.{Counts, Thresholds, Allowances, Times, Buckets, Cover, Form, Words, Draw, Ended, Spoiled, Room, Run, TooClose, SavedForm, Points, PointsInForm}

abbrev pub number_of : Refusal → ℕ
number_of Counts = 1
number_of Thresholds = 2
number_of Allowances = 3
number_of Times = 4
number_of Buckets = 5
number_of Cover = 6
number_of Form = 7
number_of Words = 8
number_of Draw = 9
number_of Ended = 10
number_of Spoiled = 11
number_of Room = 12
number_of Run = 13
number_of TooClose = 14
number_of SavedForm = 15
number_of Points = 16
number_of PointsInForm = 17

-- the number that a call hands back: 0 where it does not refuse
abbrev pub refusal_in : {A : Type 0} → Result A Refusal → ℕ
refusal_in (Ok x) = 0
refusal_in (Err r) = number_of r

-- the number of a refusal unless its rule is kept, else 0
abbrev pub unless : Bool → ℕ → ℕ
unless true r = 0
unless false r = r

-- of refusals in the order in which they are judged, the first; 0 where there is none
abbrev pub first_refusal : List ℕ → ℕ
first_refusal [] = 0
first_refusal (zero ∷ rs) = first_refusal rs
first_refusal (suc r ∷ rs) = suc r

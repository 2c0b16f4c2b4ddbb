-- One threshold in a draw (rules 6.2), and what refusal 11 asks of one (rules 8.4).
use Rattle.std.specs.Prelude.{Bool, ◌&&◌, List, ℕ, pos, get_or}
use Rattle.std.specs.Int.Signed.{le_z}
use Rattle.walk.specs.Numbers.{le?}
use Rattle.walk.specs.Row.{Row, step_row}
use Rattle.walk.specs.Strings.{judged, mark_open}
use Rattle.walk.specs.Record.{row_of, record_of, padded, start_walked, is_wide}
use Rattle.walk.specs.Soundness.{rounded_fits, boundaries_sound, words_sound, Steppable}
use Rattle.walk.specs.declared.Mark.{Mark}
use Rattle.walk.specs.declared.Mark.TheVariants.{Open, Above, AtMost}
use Rattle.walk.specs.declared.Walked.{Walked}
use Rattle.plan.specs.Places.{within}
use Rattle.plan.specs.Plan.{threshold_at, spending_of}
use Rattle.bucket_test.specs.Words.{part_at}
use Rattle.plan.specs.declared.Plan.{Plan}
use Rattle.bucket_test.specs.declared.Threshold.{Threshold}
use Rattle.bucket_test.specs.declared.State.{State}

-- an open record: that of step 0, and that of a refused beginning, zeros in every number
abbrev pub open_record : Walked → Threshold
open_record w = record { mark = Open; walked = w }

unfoldable pub start_record : Threshold
start_record = open_record start_walked

abbrev pub no_walked : Walked
no_walked = record { lower = pos 0; upper = 0; over = 0; under = 0; rounded = 0 }

abbrev pub no_record : Threshold
no_record = open_record no_walked

abbrev pub record_at : State → ℕ → Threshold
record_at s i = get_or s.records i no_record

-- an open threshold that is wide
abbrev pub wide_open : Threshold → Bool
wide_open t = mark_open t.mark && is_wide t.walked

-- S at or over the upper boundary of step n marks it above, S at or under the lower one at most, else it stays open
unfoldable pub marked : ℕ → ℕ → Walked → Mark
marked n S w = judged n (le? w.upper S) (le_z (pos S) w.lower)

-- the turn of one threshold at draw n with S ones, e = E(n): an open one walks one step, a settled one and its part stay
module _ (a e n S : ℕ) where
  unfoldable pub walked_on : Row → Threshold
  walked_on r = record { mark = marked n S (record_of r); walked = record_of r }

  abbrev pub turn_record : Mark → Threshold → List ℕ → Threshold
  turn_record Open t part = walked_on (step_row a e (row_of t.walked part))
  turn_record (Above u) t part = t
  turn_record (AtMost u) t part = t

  abbrev pub turn_part : Mark → Threshold → List ℕ → List ℕ
  turn_part Open t part = padded (step_row a e (row_of t.walked part)).masses
  turn_part (Above u) t part = part
  turn_part (AtMost u) t part = part

-- what a turn asks of an open threshold: that its walk can go one step on, in the part
abbrev pub MayTurn : ℕ → ℕ → Mark → Threshold → List ℕ → Type 0
MayTurn a e Open t part = Steppable a e t.walked part
MayTurn a e (Above u) t part = Unit
MayTurn a e (AtMost u) t part = Unit

-- refusal 11, of one threshold after n draws with S ones, e = E(n). By its mark: the boundaries and spent masses of an open one are sound; a settled
-- one's step is from 1 to n
abbrev pub mark_sound : ℕ → ℕ → ℕ → Mark → Walked → Bool
mark_sound e n S Open w = boundaries_sound e n S w
mark_sound e n S (Above u) w = within 1 n u
mark_sound e n S (AtMost u) w = within 1 n u

-- .. open or settled, its number of masses rounded fits too
abbrev pub numbers_sound : ℕ → ℕ → ℕ → Mark → Threshold → Bool
numbers_sound e n S m t = rounded_fits n t.walked && mark_sound e n S m t.walked

-- .. and the words of an open one are sound
abbrev pub record_sound : ℕ → ℕ → ℕ → Mark → Threshold → List ℕ → Bool
record_sound e n S Open t part = numbers_sound e n S Open t && words_sound t.walked part
record_sound e n S (Above u) t part = numbers_sound e n S (Above u) t
record_sound e n S (AtMost u) t part = numbers_sound e n S (AtMost u) t

-- ---- the threshold at place i of a plan, whose record is t, with its part of the words

module _ (p : Plan) (words : List ℕ) (n S i : ℕ) (t : Threshold) where
  abbrev pub record_turn : Threshold
  record_turn = turn_record (threshold_at p i) (spending_of p i n) n S t.mark t (part_at i words)

  abbrev pub part_turn : List ℕ
  part_turn = turn_part (threshold_at p i) (spending_of p i n) n S t.mark t (part_at i words)

  abbrev pub record_sound_at : Bool
  record_sound_at = record_sound (spending_of p i n) n S t.mark t (part_at i words)

-- what its turn at draw n asks
abbrev pub MayTurnAt : Plan → List ℕ → ℕ → ℕ → Threshold → Type 0
MayTurnAt p words n i t = MayTurn (threshold_at p i) (spending_of p i n) t.mark t (part_at i words)

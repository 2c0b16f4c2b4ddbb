-- Strings of draws, their weights and chances, and which boundary a string meets first (rules 4.1, 4.2).
use Rattle.std.specs.Prelude.{ℕ, zero, suc, ◌+◌, ◌-◌, ◌*◌, ◌<◌, ◌≤◌, Bool, true, false, List, [], ◌∷◌, length, drop}
use Rattle.walk.specs.Numbers.{le?, lt?, only}
use Rattle.walk.specs.declared.Mark.{Mark}
use Rattle.walk.specs.declared.Mark.TheVariants.{Open, Above, AtMost}

-- a string of draws, the latest first: true is the draw 1
abbrev pub Draws : Type 0
Draws = List Bool

-- the ones among them
abbrev pub ones : Draws → ℕ
ones [] = 0
ones (true ∷ s) = suc (ones s)
ones (false ∷ s) = ones s

-- the ones among the first t draws: the count after step t
unfoldable pub ones_by : Draws → ℕ → ℕ
ones_by s t = ones (drop (length s - t) s)

-- a string weighs x for each 1 and z for each 0
abbrev pub weight : ℕ → ℕ → Draws → ℕ
weight x z [] = 1
weight x z (true ∷ s) = x * weight x z s
weight x z (false ∷ s) = z * weight x z s

-- the sum of g over all strings of n draws
abbrev pub sum_strings : ℕ → (Draws → ℕ) → ℕ
sum_strings zero g = g []
sum_strings (suc n) g = sum_strings n (λ s. g (false ∷ s) + g (true ∷ s))

-- the summed weights of the strings of n draws that pass a test, where a draw is 1 with the chance x / y; over y^n that is a chance
unfoldable pub chance : ℕ → ℕ → ℕ → (Draws → Bool) → ℕ
chance x y n test = sum_strings n (λ s. only (test s) (weight x (y - x) s))

-- ---- meeting a boundary; `first` and `upper` give the first live count and the upper boundary of each step

pub data Side : Type 0 where
  Upper : Side
  Lower : Side

-- a count c at or over the upper boundary; at or under the lower one, which is first - 1
abbrev pub Reaches : Side → ℕ → ℕ → ℕ → Type 0
Reaches Upper first upper c = upper ≤ c
Reaches Lower first upper c = c < first

-- The string meets the side's boundary first at step t: the ones among its first t draws are at or beyond that boundary of step t, and
-- after no earlier step were at or beyond either boundary of that step.
pub record MeetsFirst (first upper : ℕ → ℕ) (side : Side) (t : ℕ) (s : Draws) : Type 0 where
  pub from : 1 ≤ t
  pub to : t ≤ length s
  pub reaches : Reaches side (first t) (upper t) (ones_by s t)
  pub before : (i : ℕ) → 1 ≤ i → i < t → (first i ≤ ones_by s i) × (ones_by s i < upper i)

-- ---- the same as a test that computes: the mark of a string. proofs/Meeting shows that between boundaries in order, `first` at most `upper`
-- at every step, `mark` is Above t exactly when the string meets the upper boundary first at step t, and AtMost t exactly when so the lower.

-- the mark at step t of a count, by whether it is at or over the upper boundary, and whether at or under the lower one
abbrev pub judged : ℕ → Bool → Bool → Mark
judged t true low = Above t
judged t false true = AtMost t
judged t false false = Open

unfoldable pub verdict : (ℕ → ℕ) → (ℕ → ℕ) → ℕ → ℕ → Mark
verdict first upper t c = judged t (le? (upper t) c) (lt? c (first t))

-- a settled mark stands
abbrev pub or_else : Mark → Mark → Mark
or_else Open later = later
or_else (Above t) later = Above t
or_else (AtMost t) later = AtMost t

unfoldable pub mark : (ℕ → ℕ) → (ℕ → ℕ) → Draws → Mark
mark first upper [] = Open
mark first upper (b ∷ s) = or_else (mark first upper s) (verdict first upper (suc (length s)) (ones (b ∷ s)))

-- the mark settled on a side at step t; whether a mark is settled on a side; whether it is not settled
abbrev pub settled : Side → ℕ → Mark
settled Upper t = Above t
settled Lower t = AtMost t

abbrev pub is_on : Side → Mark → Bool
is_on Upper (Above t) = true
is_on Upper (AtMost t) = false
is_on Upper Open = false
is_on Lower (Above t) = false
is_on Lower (AtMost t) = true
is_on Lower Open = false

abbrev pub mark_open : Mark → Bool
mark_open Open = true
mark_open (Above t) = false
mark_open (AtMost t) = false

-- the last step walked, after n draws: an open threshold's is n, a settled one's the step where the draws first met a boundary
abbrev pub last_step : Mark → ℕ → ℕ
last_step Open n = n
last_step (Above t) n = t
last_step (AtMost t) n = t

-- What is claimed of the chances of one walk (rules 4.2, 4.3): the part of demand 3 that speaks of all strings.
use Rattle.std.specs.Prelude.{ℕ, ◌+◌, ◌*◌, ◌^◌, ◌≤◌, Bool, ◌&&◌, length}
use Rattle.walk.specs.Units.{M, million, wide}
use Rattle.walk.specs.Spending.{IsSpending}
use Rattle.walk.specs.Walk.{Walk, walk, first_at, upper_at, NoWideBefore, no_wide_before?}
use Rattle.walk.specs.Strings.{Draws, Side, Upper, Lower, MeetsFirst, mark, is_on, last_step, chance}

module _ (a : ℕ) (E : ℕ → ℕ) where
  -- the string meets the side's boundary of this walk first at step t, which is not past the first wide step
  pub record Meets (side : Side) (t : ℕ) (s : Draws) : Type 0 where
    pub meets : MeetsFirst (first_at a E) (upper_at a E) side t s
    pub not_past : NoWideBefore a E t

  -- whether it so meets it at some step: its mark is settled on the side, at a step not past the first wide one (proofs/Chances, `meets_says`)
  unfoldable pub meets? : Side → Draws → Bool
  meets? side s =
      is_on side (mark (first_at a E) (upper_at a E) s) && no_wide_before? a E (last_step (mark (first_at a E) (upper_at a E) s) (length s))

  -- W: the summed weights of the strings of n draws that meet the side's boundary first by step n, where a draw is 1 with the chance a
  unfoldable pub meeting : Side → ℕ → ℕ
  meeting side n = chance a million n (meets? side)

-- a side's spent mass
abbrev pub spent : Side → Walk → ℕ
spent Upper w = w.over
spent Lower w = w.under

-- A side after n steps: its chance W / million^n is at most the spent mass, which exceeds it by `excess` at most, in units.
pub record Bounds (n W spentMass excess : ℕ) : Type 0 where
  pub at_least : W * M ≤ spentMass * million ^ n
  pub at_most : spentMass * million ^ n ≤ W * M + excess * million ^ n

-- the chance theorem: each side's chance is at most E(n), from n = 0 on ..
abbrev pub AllowedTheorem : Type 0
AllowedTheorem =
    (a : ℕ) → a ≤ million → (E : ℕ → ℕ) → IsSpending E → (side : Side) (n : ℕ)
    → meeting a E side n * M ≤ E n * million ^ n

-- .. and within one unit of its spent mass for each mass rounded, as long as the walk goes on: up to the first wide step ..
abbrev pub RoundedChanceTheorem : Type 0
RoundedChanceTheorem =
    (a : ℕ) → a ≤ million → (E : ℕ → ℕ) → IsSpending E → (side : Side) (n : ℕ) → NoWideBefore a E n
    → Bounds n (meeting a E side n) (spent side (walk a E n)) (walk a E n).rounded

-- .. so within 769 units for each step
abbrev pub ChanceTheorem : Type 0
ChanceTheorem =
    (a : ℕ) → a ≤ million → (E : ℕ → ℕ) → IsSpending E → (side : Side) (n : ℕ) → NoWideBefore a E n
    → Bounds n (meeting a E side n) (spent side (walk a E n)) (wide * n)

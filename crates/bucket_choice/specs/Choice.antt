-- Which bucket is named for an interval from low to high (rules 7.1, 7.2), under every plan, accepted or not. Places are counted from 0.
use Rattle.std.specs.Prelude.{Bool, not, ◌&&◌, ℕ, ◌-◌, Option, Some, None, if◌then◌else◌}
use Rattle.walk.specs.Numbers.{le?, lt?, search_up}
use Rattle.plan.specs.Places.{any_to}
use Rattle.plan.specs.Plan.{left_at, right_at}
use Rattle.plan.specs.declared.Plan.{Plan}

-- the width of the bucket at place j: its right end minus its left end; 0 where the right end is below the left one, as in no accepted plan
abbrev pub width_at : Plan → ℕ → ℕ
width_at p j = right_at p j - left_at p j

module _ (p : Plan) (low high : ℕ) where
  -- the bucket at place j contains the interval
  unfoldable pub contains : ℕ → Bool
  contains j = le? (left_at p j) low && le? high (right_at p j)

  -- the bucket at place i contains it and is narrower than the one at place j
  unfoldable pub narrower : ℕ → ℕ → Bool
  narrower i j = contains i && lt? (width_at p i) (width_at p j)

  -- the one at place j contains it, and none that does is narrower
  unfoldable pub narrowest : ℕ → Bool
  narrowest j = contains j && not (any_to p.buckets (λ i. narrower i j))

-- the place of the bucket that is named for an interval under a plan; B or more where none is
abbrev pub Choice : Type 0
Choice = Plan → ℕ → ℕ → ℕ

-- the choice: the first of the narrowest in plan order
unfoldable pub chosen_bucket : Choice
chosen_bucket p low high = search_up p.buckets 0 (narrowest p low high)

-- the place j of a bucket among the first n; None where there is none, n or more
abbrev pub named : ℕ → ℕ → Option ℕ
named n j = if lt? j n then Some j else None

-- the choice before it: the first in plan order, whatever its width
unfoldable pub first_bucket : Choice
first_bucket p low high = search_up p.buckets 0 (contains p low high)

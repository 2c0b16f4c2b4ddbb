-- The words lent to a test (rules 5.1).
use Rattle.std.specs.Prelude.{◌≡◌, Bool, List, ℕ, ◌+◌, ◌*◌, ◌≤◌, ◌<◌, length, take, drop, get_or}
use Rattle.walk.specs.Units.{wide}
use Rattle.walk.specs.Walk.{Walk, lower}
use Rattle.walk.specs.declared.Walked.{Walked}
use Rattle.plan.specs.Places.{eq?}
use Rattle.plan.specs.declared.Plan.{Plan}

-- the part of the threshold at place i: 769 words from 769 × i on
unfoldable pub part_at : ℕ → List ℕ → List ℕ
part_at i words = take wide (drop (wide * i) words)

-- the number of words is 769 × K (refusal 8)
unfoldable pub words_fit : Plan → List ℕ → Bool
words_fit p words = eq? (length words) (wide * p.count)

-- a record and a part hold the boundaries, spent masses, number of masses rounded and masses of the walk w: word j is the mass at count
-- lower + 1 + j, and words after the live counts are zero
pub record Stands (w : Walk) (r : Walked) (part : List ℕ) : Type 0 where
  pub lower_is : r.lower ≡ lower w
  pub upper_is : r.upper ≡ w.upper
  pub over_is : r.over ≡ w.over
  pub under_is : r.under ≡ w.under
  pub rounded_is : r.rounded ≡ w.rounded
  pub size : length part ≡ wide
  -- each live count has its word
  pub fits : w.upper ≤ w.first + wide
  pub masses : (j : ℕ) → j < wide → get_or part j 0 ≡ w.mass (w.first + j)
  pub zeros : (j : ℕ) → w.upper ≤ w.first + j → get_or part j 0 ≡ 0

-- A bucket by its ends, and the portion of each allowance that may be spent, for inner contracts; no entry's contract cites this file.
use Rattle.std.specs.Prelude.{Bool, true, false, not, ◌&&◌, ℕ, ◌+◌}
use Rattle.walk.specs.Numbers.{lt?}
use Rattle.walk.specs.Units.{million}
use Rattle.walk.specs.declared.Portion.{Portion}
use Rattle.plan.specs.Places.{eq?}
use Rattle.plan.specs.Points.{share_by}
use Rattle.plan.specs.Plan.{step_at, share_at, permitted}
use Rattle.plan.specs.declared.Plan.{Plan}

-- `bucket_fits` of a bucket with these ends
abbrev pub ends_fit : Plan → ℕ → ℕ → Bool
ends_fit p left right = lt? left right && (not (eq? left 0 && eq? right million) && (permitted p left && permitted p right))

-- n / (n + k) without points, the share in millionths with them
abbrev pub portion_by : Bool → ℕ → ℕ → ℕ → Portion
portion_by true delay share n = record { numerator = n; denominator = n + delay }
portion_by false delay share n = record { numerator = share; denominator = million }

unfoldable pub portion_of : Plan → ℕ → Portion
portion_of p n = portion_by (eq? p.points 0) p.delay (share_by (step_at p) (share_at p) p.points n) n

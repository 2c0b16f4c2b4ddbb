-- Two tests of which a plan's saved forms keep the same: equal tests of saved 4.
use Rattle.std.specs.Prelude.{◌≡◌, List, ℕ, ◌*◌, ◌<◌, length, take}
use Rattle.walk.specs.Units.{wide}
use Rattle.plan.specs.declared.Plan.{Plan}
use Rattle.bucket_test.specs.Words.{part_at}
use Rattle.bucket_test.specs.Turn.{record_at}
use Rattle.bucket_test.specs.declared.Threshold.{Threshold}
use Rattle.bucket_test.specs.declared.State.{State}
use Rattle.saved_test.specs.Form.{live_count}

-- the masses of a threshold's live counts, from its part of the words: none of a settled one
abbrev pub live_masses : Threshold → List ℕ → List ℕ
live_masses t part = take (live_count t) part

-- the same n, S, first K records and masses of open thresholds, in the right number of words, whatever stands in the rest
pub record Alike (p : Plan) (s : State) (words : List ℕ) (s' : State) (words' : List ℕ) : Type 0 where
  pub n_same : s'.n ≡ s.n
  pub ones_same : s'.ones ≡ s.ones
  pub record_same : (i : ℕ) → i < p.count → record_at s' i ≡ record_at s i
  pub masses_same : (i : ℕ) → i < p.count → live_masses (record_at s i) (part_at i words') ≡ live_masses (record_at s i) (part_at i words)
  pub sizes : (length words ≡ wide * p.count) × (length words' ≡ wide * p.count)

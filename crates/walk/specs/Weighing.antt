-- What the pass over live masses keeps, for inner contracts; no entry's contract cites this file.
use Rattle.std.specs.Prelude.{◌≡◌, ℕ, ◌*◌, ◌≤◌, true, List, take}
use Rattle.walk.specs.Numbers.{lt?, sum, all_up_to}
use Rattle.walk.specs.Units.{mass_limit, wide}
use Rattle.walk.specs.declared.Weighed.{Weighed}

-- .. of the first `count` masses: whether each is at most 2^43, and, where they are and there are at most 769, their sum
pub record Weighs (masses : List ℕ) (count : ℕ) (w : Weighed) : Type 0 where
  pub fits : lt? w.bits (2 * mass_limit) ≡ all_up_to mass_limit (take count masses)
  pub sums : count ≤ wide → all_up_to mass_limit (take count masses) ≡ true → w.sum ≡ sum (take count masses)

-- What is claimed of a choice of buckets, in words (rules 7.2). Definitions only.
use Rattle.std.specs.Prelude.{◌≡◌, ℕ, ◌-◌, ◌≤◌, ◌<◌}
use Rattle.plan.specs.Plan.{left_at, right_at}
use Rattle.bucket_choice.specs.Choice.{Choice, chosen_bucket, first_bucket}
use Rattle.plan.specs.declared.Plan.{Plan}

-- the bucket at place j contains the interval from low to high
pub record Contains (p : Plan) (low high j : ℕ) : Type 0 where
  pub inside : j < p.buckets
  pub left_fits : left_at p j ≤ low
  pub right_fits : high ≤ right_at p j

-- it is the one to be named: of all that contain the interval it is the first of the narrowest
pub record Chosen (p : Plan) (low high j : ℕ) : Type 0 where
  pub contains_it : Contains p low high j
  pub none_narrower : (i : ℕ) → Contains p low high i → right_at p j - left_at p j ≤ right_at p i - left_at p i
  pub none_earlier : (i : ℕ) → Contains p low high i → right_at p i - left_at p i ≡ right_at p j - left_at p j → j ≤ i

-- a choice names, under the plan p, a bucket that contains the interval exactly where there is one
pub record NamesContaining (choice : Choice) (p : Plan) : Type 0 where
  pub named : (low high : ℕ) → choice p low high < p.buckets → Contains p low high (choice p low high)
  pub some_named : (low high j : ℕ) → Contains p low high j → choice p low high < p.buckets

-- of every plan and every low and high: both choices do; what the choice names is the one to be named; and there is only one such place
pub record ChoiceSays (p : Plan) : Type 0 where
  pub chosen_names : NamesContaining chosen_bucket p
  pub first_names : NamesContaining first_bucket p
  pub chosen_is : (low high : ℕ) → chosen_bucket p low high < p.buckets → Chosen p low high (chosen_bucket p low high)
  pub only_one : (low high i j : ℕ) → Chosen p low high i → Chosen p low high j → i ≡ j

abbrev pub ChoiceTheorem : Type 0
ChoiceTheorem = (p : Plan) → ChoiceSays p

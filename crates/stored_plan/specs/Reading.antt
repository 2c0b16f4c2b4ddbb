-- Reading a stored plan: any bytes give a plan or a refusal (rules 2.2).
use Rattle.std.specs.Prelude.{Bool, ◌&&◌, List, [], ◌∷◌, ℕ, zero, suc, ◌+◌, length, replicate, Result, Ok, Err}
use Rattle.walk.specs.Numbers.{le?}
use Rattle.plan.specs.Places.{eq?}
use Rattle.refusals.specs.Refusals.{number_of, unless, first_refusal}
use Rattle.refusals.specs.declared.Refusal.{Refusal}
use Rattle.plan.specs.Plan.{count_limit, bucket_limit, point_limit, counts_fit, plan_refusal}
use Rattle.plan.specs.declared.Plan.{Plan}
use Rattle.little.specs.Little.{field, column, filled}
use Rattle.stored_plan.specs.Form.{header_size, count_field, buckets_field, threshold_offset_field, bucket_offset_field, delay_field, horizon_field}
use Rattle.stored_plan.specs.Form.{threshold_entry_size, allowance_field, bucket_entry_size, right_field, bucket_offset, form_size}

module _ (bytes : List ℕ) where
  -- the header's counts
  unfoldable pub count_in : ℕ
  count_in = field 2 count_field bytes

  unfoldable pub buckets_in : ℕ
  buckets_in = field 2 buckets_field bytes

  -- the plan that the bytes hold, if they hold one; zeros past the counts, and no points
  unfoldable pub plan_in : Plan
  plan_in = record {
    count = count_in;
    buckets = buckets_in;
    delay = field 4 delay_field bytes;
    horizon = field 4 horizon_field bytes;
    points = 0;
    thresholds = filled count_in (column 4 header_size threshold_entry_size bytes) (replicate count_limit 0);
    allowances = filled count_in (column 8 (header_size + allowance_field) threshold_entry_size bytes) (replicate count_limit 0);
    left = filled buckets_in (column 4 (bucket_offset count_in) bucket_entry_size bytes) (replicate bucket_limit 0);
    right = filled buckets_in (column 4 (bucket_offset count_in + right_field) bucket_entry_size bytes) (replicate bucket_limit 0);
    steps = replicate point_limit 0;
    shares = replicate point_limit 0;
  }

  unfoldable pub offsets_fit : Bool
  offsets_fit = eq? (field 2 threshold_offset_field bytes) header_size && eq? (field 2 bucket_offset_field bytes) (bucket_offset count_in)

  unfoldable pub length_fits : Bool
  length_fits = eq? (length bytes) (form_size count_in buckets_in)

  -- of a form with a header, before its plan is judged: 1 for its counts, 7 for offsets then total length
  unfoldable pub form_refusal : ℕ
  form_refusal = first_refusal (unless (counts_fit count_in buckets_in) 1 ∷ unless offsets_fit 7 ∷ unless length_fits 7 ∷ [])

  -- 7 for a length under the header's, the form's, the plan's
  unfoldable pub read_refusal : ℕ
  read_refusal = first_refusal (unless (le? header_size (length bytes)) 7 ∷ form_refusal ∷ plan_refusal plan_in ∷ [])

-- no plan: zeros in every number
unfoldable pub no_plan : Plan
no_plan = record {
  count = 0;
  buckets = 0;
  delay = 0;
  horizon = 0;
  points = 0;
  thresholds = replicate count_limit 0;
  allowances = replicate count_limit 0;
  left = replicate bucket_limit 0;
  right = replicate bucket_limit 0;
  steps = replicate point_limit 0;
  shares = replicate point_limit 0;
}

-- a plan that was read, or the number of the refusal, 0 for none; a refused reading hands back zeros in every number of the plan
pub record Read : Type 0 where
  pub refusal : ℕ
  pub plan : Plan

abbrev pub decoded_by : ℕ → List ℕ → Read
decoded_by zero bytes = record { refusal = 0; plan = plan_in bytes }
decoded_by (suc r) bytes = record { refusal = suc r; plan = no_plan }

unfoldable pub decoded : List ℕ → Read
decoded bytes = decoded_by (read_refusal bytes) bytes

-- what code hands back, as such a record
abbrev pub read_as : Result Plan Refusal → Read
read_as (Ok p) = record { refusal = 0; plan = p }
read_as (Err r) = record { refusal = number_of r; plan = no_plan }

-- the same where the plan stands in a lent place
abbrev pub lent_as : {A : Type 0} → Result A Refusal → Plan → Read
lent_as (Ok x) p = record { refusal = 0; plan = p }
lent_as (Err r) p = record { refusal = number_of r; plan = no_plan }

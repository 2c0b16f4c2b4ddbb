-- The layout of a stored form (rules 2.1).
use Rattle.std.specs.Prelude.{List, ◌++◌, ℕ, ◌+◌, ◌*◌, get_or}
use Rattle.plan.specs.Places.{join_to}
use Rattle.plan.specs.declared.Plan.{Plan}
use Rattle.little.specs.Little.{to_le}

-- ---- sizes and offsets, in bytes

-- the header, which the thresholds follow, and the offsets of its fields
abbrev pub header_size : ℕ
header_size = 16

abbrev pub count_field : ℕ
count_field = 0

abbrev pub buckets_field : ℕ
buckets_field = 2

abbrev pub threshold_offset_field : ℕ
threshold_offset_field = 4

abbrev pub bucket_offset_field : ℕ
bucket_offset_field = 6

abbrev pub delay_field : ℕ
delay_field = 8

abbrev pub horizon_field : ℕ
horizon_field = 12

-- the entry of a threshold, and in it the allowance
abbrev pub threshold_entry_size : ℕ
threshold_entry_size = 12

abbrev pub allowance_field : ℕ
allowance_field = 4

-- the entry of a bucket, and in it the right end
abbrev pub bucket_entry_size : ℕ
bucket_entry_size = 8

abbrev pub right_field : ℕ
right_field = 4

-- the offset of the buckets behind K thresholds; the length with B buckets; the longest
unfoldable pub bucket_offset : ℕ → ℕ
bucket_offset count = header_size + threshold_entry_size * count

unfoldable pub form_size : ℕ → ℕ → ℕ
form_size count buckets = bucket_offset count + bucket_entry_size * buckets

abbrev pub form_limit : ℕ
form_limit = 264

-- ---- the form

-- an entry of two numbers, of m and of n bytes, those at one place of two tables
abbrev pub pair : ℕ → ℕ → List ℕ → List ℕ → ℕ → List ℕ
pair m n first second i = to_le m (get_or first i 0) ++ to_le n (get_or second i 0)

module _ (p : Plan) where
  -- 2 bytes K, 2 bytes B, 2 bytes offset of thresholds, 2 bytes offset of buckets, 4 bytes k, 4 bytes N
  unfoldable pub header : List ℕ
  header =
      to_le 2 p.count
      ++ (to_le 2 p.buckets
      ++ (to_le 2 header_size
      ++ (to_le 2 (bucket_offset p.count)
      ++ (to_le 4 p.delay
      ++ to_le 4 p.horizon))))

  -- K entries: 4 bytes threshold, 8 bytes allowance
  unfoldable pub threshold_entries : List ℕ
  threshold_entries = join_to p.count (pair 4 8 p.thresholds p.allowances)

  -- B entries: 4 bytes left, 4 bytes right
  unfoldable pub bucket_entries : List ℕ
  bucket_entries = join_to p.buckets (pair 4 4 p.left p.right)

  unfoldable pub encoded : List ℕ
  encoded = header ++ (threshold_entries ++ bucket_entries)

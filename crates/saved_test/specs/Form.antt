-- The layout of a saved test (saved 1): a header, a record for each threshold, then the masses of the open thresholds.
use Rattle.std.specs.Prelude.{List, ◌++◌, ℕ, zero, suc, ◌+◌, ◌*◌, ◌-◌, ℤ, pos, negsuc, get_or}
use Rattle.std.specs.Int.{w32}
use Rattle.std.proofs.Common.{of_z}
use Rattle.walk.specs.declared.Mark.{Mark}
use Rattle.walk.specs.declared.Mark.TheVariants.{Open, Above, AtMost}
use Rattle.walk.specs.declared.Walked.{Walked}
use Rattle.plan.specs.Places.{join_to}
use Rattle.plan.specs.declared.Plan.{Plan}
use Rattle.bucket_test.specs.Words.{part_at}
use Rattle.bucket_test.specs.Turn.{record_at}
use Rattle.bucket_test.specs.declared.Threshold.{Threshold}
use Rattle.bucket_test.specs.declared.State.{State}
use Rattle.little.specs.Little.{to_le}

-- ---- sizes and offsets, in bytes

-- the header, which the records follow, and the offsets of its fields
abbrev pub header_size : ℕ
header_size = 24

abbrev pub count_field : ℕ
count_field = 0

abbrev pub masses_field : ℕ
masses_field = 2

abbrev pub record_offset_field : ℕ
record_offset_field = 4

abbrev pub mass_offset_field : ℕ
mass_offset_field = 6

abbrev pub size_field : ℕ
size_field = 8

abbrev pub draws_field : ℕ
draws_field = 12

abbrev pub ones_field : ℕ
ones_field = 16

abbrev pub record_size_field : ℕ
record_size_field = 20

abbrev pub mass_size_field : ℕ
mass_size_field = 22

-- a record, and the offsets of its fields behind the mark
abbrev pub record_size : ℕ
record_size = 36

abbrev pub step_field : ℕ
step_field = 4

abbrev pub lower_field : ℕ
lower_field = 8

abbrev pub upper_field : ℕ
upper_field = 12

abbrev pub over_field : ℕ
over_field = 16

abbrev pub under_field : ℕ
under_field = 24

abbrev pub rounded_field : ℕ
rounded_field = 32

abbrev pub mass_size : ℕ
mass_size = 8

-- the offset of the record at place i, and so of what follows i records; the length with K records and so many masses; the longest
unfoldable pub record_offset : ℕ → ℕ
record_offset i = header_size + record_size * i

unfoldable pub form_size : ℕ → ℕ → ℕ
form_size count masses = record_offset count + mass_size * masses

abbrev pub form_limit : ℕ
form_limit = 61904

-- ---- how many masses there are

-- upper - lower - 1, the counts strictly between two boundaries: upper - (b + 1) where lower is b, upper + b where it is -(b + 1); 0 for none
unfoldable pub counts_between : ℤ → ℕ → ℕ
counts_between (pos b) upper = upper - suc b
counts_between (negsuc b) upper = upper + b

-- those of an open threshold; of a settled one none
abbrev pub live_by : Mark → Walked → ℕ
live_by Open w = counts_between w.lower w.upper
live_by (Above t) w = 0
live_by (AtMost t) w = 0

abbrev pub live_count : Threshold → ℕ
live_count t = live_by t.mark t.walked

-- of the thresholds before place i together
unfoldable pub masses_to : (ℕ → Threshold) → ℕ → ℕ
masses_to records zero = 0
masses_to records (suc i) = masses_to records i + live_count (records i)

-- ---- the form

-- 0 open, 1 above, 2 at most; the step is 0 where open
abbrev pub mark_code : Mark → ℕ
mark_code Open = 0
mark_code (Above t) = 1
mark_code (AtMost t) = 2

abbrev pub mark_step : Mark → ℕ
mark_step Open = 0
mark_step (Above t) = t
mark_step (AtMost t) = t

-- 4 bytes mark, 4 bytes step, 4 bytes lower boundary in two's complement, 4 bytes upper, 8 bytes upper spent mass, 8 bytes lower, 4 bytes number
-- of masses rounded
unfoldable pub record_bytes : Threshold → List ℕ
record_bytes t =
    to_le 4 (mark_code t.mark)
    ++ (to_le 4 (mark_step t.mark)
    ++ (to_le 4 (of_z w32 t.walked.lower)
    ++ (to_le 4 t.walked.upper
    ++ (to_le 8 t.walked.over
    ++ (to_le 8 t.walked.under
    ++ to_le 4 t.walked.rounded)))))

-- the first masses of a part, 8 bytes each
unfoldable pub mass_bytes : ℕ → List ℕ → List ℕ
mass_bytes count part = join_to count (λ j. to_le mass_size (get_or part j 0))

-- the header of a form with so many thresholds and masses, after n draws with so many ones: 2 bytes K, 2 bytes count of masses, 2 bytes offset of
-- records, 2 bytes offset of masses, 4 bytes whole length, 4 bytes n, 4 bytes S, 2 bytes size of a record, 2 bytes size of a mass
unfoldable pub header : ℕ → ℕ → ℕ → ℕ → List ℕ
header count masses n ones =
    to_le 2 count
    ++ (to_le 2 masses
    ++ (to_le 2 header_size
    ++ (to_le 2 (record_offset count)
    ++ (to_le 4 (form_size count masses)
    ++ (to_le 4 n
    ++ (to_le 4 ones
    ++ (to_le 2 record_size
    ++ to_le 2 mass_size)))))))

module _ (p : Plan) (s : State) where
  -- the masses of all open thresholds together, and the whole length
  abbrev pub saved_masses : ℕ
  saved_masses = masses_to (record_at s) p.count

  abbrev pub saved_size : ℕ
  saved_size = form_size p.count saved_masses

  -- the test's header
  abbrev pub saved_header : List ℕ
  saved_header = header p.count saved_masses s.n s.ones

  -- the first K records; then the masses of each of the K thresholds
  unfoldable pub record_entries : List ℕ
  record_entries = join_to p.count (λ i. record_bytes (record_at s i))

  unfoldable pub mass_entries : List ℕ → List ℕ
  mass_entries words = join_to p.count (λ i. mass_bytes (live_count (record_at s i)) (part_at i words))

  unfoldable pub saved_form : List ℕ → List ℕ
  saved_form words = saved_header ++ (record_entries ++ mass_entries words)

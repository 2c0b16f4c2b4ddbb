-- Lengths of the parts of a stored form, and the parts put one behind the other (specs/Form).
use mathlib.Core.Path.{◌≡◌, ap, ◌∙◌}
use mathlib.Core.List.{List, ◌++◌, append_assoc}
use Prim.Native.Nat.{ℕ, ◌+◌, ◌*◌, ◌≤◌, ◌<◌}
use native.Mathlib.Omega.{arith}
use lib.ListN.{length, take, drop, get_or, length-append}
use lib.Seq.{get_or-take}
use Rattle.plan.specs.Places.{join_to}
use Rattle.plan.proofs.PlaceLists.{join_cong}
use Rattle.plan.specs.declared.Plan.{Plan}
use Rattle.plan.proofs.AcceptedLaws.{Counted}
use Rattle.little.specs.Little.{to_le, put_at}
use Rattle.stored_plan.specs.Form.{header_size, threshold_entry_size, bucket_entry_size, bucket_offset, form_size, form_limit}
use Rattle.stored_plan.specs.Form.{pair, header, threshold_entries, bucket_entries, encoded}
use Rattle.little.proofs.LittleLaws.{to_length}
use Rattle.little.proofs.Putting.{put_first, then}
use Rattle.little.proofs.EntryLaws.{join_size}

-- entries of two numbers
pub pair-length : (m n : ℕ) (xs ys : List ℕ) (i : ℕ) → length (pair m n xs ys i) ≡ m + n
pair-length m n xs ys i = rw (length-append (to_le m (get_or xs i 0)) (to_le n (get_or ys i 0)), to_length m (get_or xs i 0), to_length n (get_or ys i 0))

-- the entries of the first k places of two tables, of which code may have copied the second
pub counted_entries : (m n k : ℕ) (xs ys zs : List ℕ) → ((i : ℕ) → i < k → get_or zs i 0 ≡ get_or ys i 0)
    → join_to k (pair m n (take k xs) (take k zs)) ≡ join_to k (pair m n xs ys)
counted_entries m n k xs ys zs e =
    join_cong k (pair m n (take k xs) (take k zs)) (pair m n xs ys) (λ i l. rw (get_or-take k xs i 0 l, get_or-take k zs i 0 l, e i l))

pub header_fits_lem : (count buckets : ℕ) → header_size ≤ form_size count buckets
unfolding form_size bucket_offset
header_fits_lem count buckets = omega arith

-- the longest form is that of the most thresholds and buckets
pub longest : (count buckets : ℕ) → Counted count buckets → form_size count buckets ≤ form_limit
unfolding form_size bucket_offset
longest count buckets h = omega arith

module _ (p : Plan) where
  pub header-length : length (header p) ≡ header_size
  unfolding header
  header-length = simp (length-append, to_length)

  pub thresholds_length : length (threshold_entries p) ≡ threshold_entry_size * p.count
  unfolding threshold_entries
  thresholds_length = join_size _ threshold_entry_size (pair-length 4 8 p.thresholds p.allowances) p.count

  -- the parts before the buckets
  pub front_length : length (header p ++ threshold_entries p) ≡ bucket_offset p.count
  unfolding bucket_offset
  front_length = omega (arith, length-append (header p) (threshold_entries p), header-length, thresholds_length)

  buckets_length : length (bucket_entries p) ≡ bucket_entry_size * p.buckets
  unfolding bucket_entries
  buckets_length = join_size _ bucket_entry_size (pair-length 4 4 p.left p.right) p.buckets

  pub encoded-length : length (encoded p) ≡ form_size p.count p.buckets
  unfolding encoded form_size bucket_offset
  encoded-length =
      simp length-append (omega (arith, header-length, thresholds_length, buckets_length))

  -- the three parts put, one behind the other
  pub put_form : (bytes bytes' bytes'' bytes''' : List ℕ) → bytes' ≡ put_at 0 (header p) bytes
      → bytes'' ≡ put_at header_size (threshold_entries p) bytes' → bytes''' ≡ put_at (bucket_offset p.count) (bucket_entries p) bytes''
      → bytes''' ≡ encoded p ++ drop (form_size p.count p.buckets) bytes
  unfolding encoded
  put_form bytes bytes' bytes'' bytes''' e f g =
      let two = then 0 (header p) (threshold_entries p) bytes bytes' bytes'' header_size e f (omega arith) (omega (arith, header-length)) in
      let front = header p ++ threshold_entries p in
      let whole : bytes''' ≡ put_at 0 (front ++ bucket_entries p) bytes =
      then 0 front (bucket_entries p) bytes bytes'' bytes''' (bucket_offset p.count) two g (omega arith) (omega (arith, front_length)) in
      let tail = ap (λ (n : ℕ). encoded p ++ drop n bytes) encoded-length in
      whole ∙ rw (append_assoc (header p) (threshold_entries p) (bucket_entries p)) (put_first (encoded p) bytes ∙ tail)

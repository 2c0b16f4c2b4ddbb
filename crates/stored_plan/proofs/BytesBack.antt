-- Accepted bytes are the form of the plan that they hold.
use mathlib.Core.Path.{◌≡◌, sym, ap, ◌∙◌}
use mathlib.Core.List.{List, ◌++◌}
use Prim.Native.Nat.{ℕ, zero, suc, ◌+◌, ◌*◌, ◌≤◌, ◌<◌}
use native.Mathlib.Nat.{mul-zero, mul-suc}
use native.Mathlib.Omega.{arith}
use lib.ListN.{length, take, drop, replicate}
use lib.Seq.{drop-drop, take-add, take_all}
use Rattle.plan.specs.Places.{join_to}
use Rattle.plan.specs.Plan.{count_limit, bucket_limit}
use Rattle.plan.proofs.PlaceLists.{join_cong}
use Rattle.little.specs.Little.{to_le, field, column, Bytes, filled}
use Rattle.stored_plan.specs.Form.{header_size, threshold_entry_size, bucket_entry_size, bucket_offset, form_size}
use Rattle.stored_plan.specs.Form.{pair, header, threshold_entries, bucket_entries, encoded}
use Rattle.stored_plan.specs.Reading.{count_in, buckets_in, plan_in, read_refusal}
use Rattle.little.proofs.LittleLaws.{to_field}
use Rattle.stored_plan.proofs.FormLaws.{header_fits_lem}
use Rattle.little.proofs.FilledLaws.{filled-get}
use Rattle.stored_plan.proofs.Refusals.{Offsets, Sized, readable}

module _ (bytes : List ℕ) where
  -- so many bytes from an offset on
  unfoldable part : ℕ → ℕ → List ℕ
  part at n = take n (drop at bytes)

  part_join : (at m n : ℕ) → part at m ++ part (at + m) n ≡ part at (m + n)
  unfolding part
  part_join at m n = rw (← drop-drop m at bytes) (sym (take-add m n (drop at bytes)))

  part_all : (n : ℕ) → length bytes ≡ n → part 0 n ≡ bytes
  unfolding part
  part_all n e = take_all n bytes (omega arith)

  -- entries that are parts, joined
  parts_join : (at size n : ℕ) → join_to n (λ i. part (at + size * i) size) ≡ part at (size * n)
  unfolding join_to part
  parts_join at size zero = rw (mul-zero size)
  parts_join at size (suc n) = rw (parts_join at size n, mul-suc size n) (part_join at (size * n) size)

  -- a table that is read
  abbrev read : ℕ → ℕ → ℕ → ℕ → ℕ → List ℕ
  read places count width at stride = filled count (column width at stride bytes) (replicate places 0)

  -- a field's number, as bytes
  module _ (each : Bytes bytes) where
    field_part : (width at : ℕ) → at + width ≤ length bytes → to_le width (field width at bytes) ≡ part at width
    unfolding part
    field_part = to_field bytes each

    -- an entry of two numbers that were read one behind the other
    pair_part : (places count at m n : ℕ) → count ≤ places → ((i : ℕ) → i < count → at + (m + n) * i + (m + n) ≤ length bytes)
        → (i : ℕ) → i < count → pair m n (read places count m at (m + n)) (read places count n (at + m) (m + n)) i ≡ part (at + (m + n) * i) (m + n)
    pair_part places count at m n k h i l =
        let entry = at + (m + n) * i in
        let second : at + m + (m + n) * i ≡ entry + m = omega arith in
        rw (
          filled-get places count (column m at (m + n) bytes) k i l,
          filled-get places count (column n (at + m) (m + n) bytes) k i l,
          second,
          field_part m entry (omega (arith, h i l)),
          field_part n (entry + m) (omega (arith, h i l)),
        ) (part_join entry m n)

    -- a plan's form, part by part
    module _ (k : count_in bytes ≤ count_limit) (b : buckets_in bytes ≤ bucket_limit) (o : Offsets bytes) (z : Sized bytes) where
      header_part : header (plan_in bytes) ≡ part 0 header_size
      unfolding header plan_in count_in buckets_in
      header_part =
          let h : header_size ≤ length bytes = rw z (header_fits_lem (count_in bytes) (buckets_in bytes)) in
          let first : to_le 2 header_size ≡ part 4 2 = ap (to_le 2) (sym o.0) ∙ field_part 2 4 (omega arith) in
          let second : to_le 2 (bucket_offset (count_in bytes)) ≡ part 6 2 = ap (to_le 2) (sym o.1) ∙ field_part 2 6 (omega arith) in
          rw (
            field_part 2 0 (omega arith),
            field_part 2 2 (omega arith),
            first,
            second,
            field_part 4 8 (omega arith),
            field_part 4 12 (omega arith),
            part_join 8 4 4,
            part_join 6 2 8,
            part_join 4 2 10,
            part_join 2 2 12,
          ) (part_join 0 2 14)

      form_whole : encoded (plan_in bytes) ≡ bytes
      unfolding encoded threshold_entries bucket_entries form_size bucket_offset plan_in
      form_whole =
          let kc = count_in bytes in
          let bc = buckets_in bytes in
          let entry-part = pair_part count_limit kc header_size 4 8 k (λ i l. omega arith) in
          let bucket-part = pair_part bucket_limit bc (bucket_offset kc) 4 4 b (λ j l. omega arith) in
          rw (
            header_part,
            join_cong kc _ (λ i. part (header_size + threshold_entry_size * i) threshold_entry_size) entry-part,
            join_cong bc _ (λ j. part (bucket_offset kc + bucket_entry_size * j) bucket_entry_size) bucket-part,
            parts_join header_size threshold_entry_size kc,
            parts_join (bucket_offset kc) bucket_entry_size bc,
            part_join header_size (threshold_entry_size * kc) (bucket_entry_size * bc),
            part_join 0 header_size (threshold_entry_size * kc + bucket_entry_size * bc),
          ) (part_all (header_size + (threshold_entry_size * kc + bucket_entry_size * bc)) (omega arith))

    pub bytes_back : read_refusal bytes ≡ 0 → encoded (plan_in bytes) ≡ bytes
    bytes_back e = let s = (readable bytes).0 e in form_whole s.counts.0.1 s.counts.1.1 s.offsets s.sized

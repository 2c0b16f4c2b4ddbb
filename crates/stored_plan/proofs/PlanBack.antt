-- The form of an accepted plan without points is read back: the plan with zeros past its counts.
use mathlib.Core.Path.{◌≡◌, refl, ◌∙◌}
use mathlib.Core.List.{List, [], ◌++◌, append_assoc, append-nil}
use Prim.Native.Nat.{ℕ, ◌+◌, ◌*◌, ◌≤◌, ◌<◌}
use native.Mathlib.Omega.{arith}
use lib.ListN.{replicate}
use Rattle.walk.specs.Units.{million, allowance_limit, horizon_limit}
use Rattle.plan.specs.Places.{over_to}
use Rattle.plan.specs.Plan.{count_limit, bucket_limit, point_limit, threshold_at, allowance_at, left_at, right_at, step_at, share_at, Accepted}
use Rattle.plan.specs.declared.Plan.{Plan}
use Rattle.plan.proofs.AcceptedLaws.{accepted, permitted_le}
use Rattle.plan.proofs.SameCountedLaws.{same_rules}
use Rattle.little.specs.Little.{to_le, field, filled}
use Rattle.stored_plan.specs.Form.{header_size, count_field, buckets_field, threshold_offset_field, bucket_offset_field, delay_field, horizon_field}
use Rattle.stored_plan.specs.Form.{threshold_entry_size, allowance_field, bucket_entry_size, right_field, bucket_offset}
use Rattle.stored_plan.specs.Form.{pair, header, threshold_entries, bucket_entries, encoded}
use Rattle.stored_plan.specs.Reading.{count_in, buckets_in, plan_in, read_refusal}
use Rattle.stored_plan.specs.RoundTrip.{SamePlan}
use Rattle.little.proofs.LittleLaws.{field_right, field_next, field_here, field_last}
use Rattle.stored_plan.proofs.FormLaws.{pair-length, header-length, front_length, encoded-length, header_fits_lem}
use Rattle.little.proofs.EntryLaws.{join_field}
use Rattle.little.proofs.FilledLaws.{filled-length, filled-get, filled_past, filled_cong}
use Rattle.stored_plan.proofs.Refusals.{readable}

-- the plan with zeros past its counts
unfoldable pub counted : Plan → Plan
counted p = record {
  count = p.count;
  buckets = p.buckets;
  delay = p.delay;
  horizon = p.horizon;
  points = p.points;
  thresholds = filled p.count (threshold_at p) (replicate count_limit 0);
  allowances = filled p.count (allowance_at p) (replicate count_limit 0);
  left = filled p.buckets (left_at p) (replicate bucket_limit 0);
  right = filled p.buckets (right_at p) (replicate bucket_limit 0);
  steps = filled p.points (step_at p) (replicate point_limit 0);
  shares = filled p.points (share_at p) (replicate point_limit 0);
}

-- ---- it is the same plan

pub same : (p : Plan) → p.count ≤ count_limit → p.buckets ≤ bucket_limit → p.points ≤ point_limit → SamePlan p (counted p)
unfolding counted
same p k b c = record {
  counted_same = record {
    counts = (refl, refl, refl);
    times = (refl, refl);
    entries = λ i l. (filled-get count_limit p.count (threshold_at p) k i l, filled-get count_limit p.count (allowance_at p) k i l);
    ends = λ j l. (filled-get bucket_limit p.buckets (left_at p) b j l, filled-get bucket_limit p.buckets (right_at p) b j l);
    points = λ j l. (filled-get point_limit p.points (step_at p) c j l, filled-get point_limit p.points (share_at p) c j l);
  };
  entries_past = λ i l. (filled_past count_limit p.count (threshold_at p) i l, filled_past count_limit p.count (allowance_at p) i l);
  ends_past = λ j l. (filled_past bucket_limit p.buckets (left_at p) j l, filled_past bucket_limit p.buckets (right_at p) j l);
  points_past = λ j l. (filled_past point_limit p.points (step_at p) j l, filled_past point_limit p.points (share_at p) j l);
  places = (
    filled-length count_limit p.count (threshold_at p),
    filled-length count_limit p.count (allowance_at p),
    filled-length bucket_limit p.buckets (left_at p),
    filled-length bucket_limit p.buckets (right_at p),
    filled-length point_limit p.points (step_at p),
    filled-length point_limit p.points (share_at p),
  );
}

-- a table of which nothing is counted
filled_none : (f : ℕ → ℕ) (xs : List ℕ) → filled 0 f xs ≡ xs
unfolding filled over_to
filled_none f xs = refl

-- ---- the form of an accepted plan without points, field by field

module _ (p : Plan) (a : Accepted p) (none : p.points ≡ 0) where
  -- the fields of the header, one behind the other
  unrolled : encoded p
      ≡ to_le 2 p.count ++ (to_le 2 p.buckets ++ (to_le 2 header_size ++ (to_le 2 (bucket_offset p.count)
      ++ (to_le 4 p.delay ++ (to_le 4 p.horizon ++ (threshold_entries p ++ bucket_entries p))))))
  unfolding encoded header
  unrolled = simp append_assoc

  in_count : field 2 count_field (encoded p) ≡ p.count
  in_count = rw unrolled (field_here 2 p.count _ (omega (arith, a.count_range.1)))

  in-buckets : field 2 buckets_field (encoded p) ≡ p.buckets
  in-buckets = rw unrolled (field_next 2 0 2 p.count _ ∙ field_here 2 p.buckets _ (omega (arith, a.buckets_range.1)))

  in-first : field 2 threshold_offset_field (encoded p) ≡ header_size
  in-first = rw unrolled (field_next 2 2 2 p.count _ ∙ field_next 2 0 2 p.buckets _ ∙ field_here 2 header_size _ (omega arith))

  in-second : field 2 bucket_offset_field (encoded p) ≡ bucket_offset p.count
  unfolding bucket_offset
  in-second =
      rw unrolled
      (field_next 2 4 2 p.count _ ∙ field_next 2 2 2 p.buckets _ ∙ field_next 2 0 2 header_size _
      ∙ field_here 2 (bucket_offset p.count) _ (omega (arith, a.count_range.1)))

  in-delay : field 4 delay_field (encoded p) ≡ p.delay
  in-delay =
      rw unrolled
      (field_next 4 6 2 p.count _ ∙ field_next 4 4 2 p.buckets _ ∙ field_next 4 2 2 header_size _
      ∙ field_next 4 0 2 (bucket_offset p.count) _ ∙ field_here 4 p.delay _ (omega (arith, a.delay_range.1)))

  in-horizon : field 4 horizon_field (encoded p) ≡ p.horizon
  unfolding horizon_limit
  in-horizon =
      rw unrolled
      (field_next 4 10 2 p.count _ ∙ field_next 4 8 2 p.buckets _ ∙ field_next 4 6 2 header_size _
      ∙ field_next 4 4 2 (bucket_offset p.count) _ ∙ field_next 4 0 4 p.delay _
      ∙ field_here 4 p.horizon _ (omega (arith, a.horizon_range.1)))

  -- a field of entry i, of bucket j
  in_entry : (i width o at : ℕ) → i < p.count → o + width ≤ threshold_entry_size → at ≡ header_size + (threshold_entry_size * i + o)
      → field width at (encoded p) ≡ field width o (pair 4 8 p.thresholds p.allowances i)
  unfolding encoded threshold_entries
  in_entry i width o at l h e =
      rw e
      (field_right width (threshold_entry_size * i + o) (header p) (threshold_entries p ++ bucket_entries p) header_size (header-length p)
      ∙ join_field _ threshold_entry_size (pair-length 4 8 p.thresholds p.allowances) p.count (bucket_entries p) i width o l h)

  in-ends : (j width o at : ℕ) → j < p.buckets → o + width ≤ bucket_entry_size → at ≡ bucket_offset p.count + (bucket_entry_size * j + o)
      → field width at (encoded p) ≡ field width o (pair 4 4 p.left p.right j)
  unfolding encoded bucket_entries
  in-ends j width o at l h e =
      rw (e, ← append_assoc (header p) (threshold_entries p) (bucket_entries p))
      (field_right width (bucket_entry_size * j + o) (header p ++ threshold_entries p) (bucket_entries p) (bucket_offset p.count) (front_length p)
      ∙ rw append-nil at (join_field (pair 4 4 p.left p.right) bucket_entry_size (pair-length 4 4 p.left p.right) p.buckets [] j width o l h))

  in-threshold : (i : ℕ) → i < p.count → field 4 (header_size + threshold_entry_size * i) (encoded p) ≡ threshold_at p i
  in-threshold i l =
      in_entry i 4 0 (header_size + threshold_entry_size * i) l (omega arith) (omega arith)
      ∙ field_here 4 (threshold_at p i) (to_le 8 (allowance_at p i)) (omega (arith, (a.threshold_range i l).1))

  in-allowance : (i : ℕ) → i < p.count → field 8 (header_size + allowance_field + threshold_entry_size * i) (encoded p) ≡ allowance_at p i
  unfolding allowance_limit
  in-allowance i l =
      in_entry i 8 allowance_field (header_size + allowance_field + threshold_entry_size * i) l (omega arith) (omega arith)
      ∙ field_next 8 0 4 (threshold_at p i) (to_le 8 (allowance_at p i))
      ∙ field_last 8 (allowance_at p i) (omega (arith, (a.allowance_range i l).1))

  in_left : (j : ℕ) → j < p.buckets → field 4 (bucket_offset p.count + bucket_entry_size * j) (encoded p) ≡ left_at p j
  unfolding million
  in_left j l =
      in-ends j 4 0 (bucket_offset p.count + bucket_entry_size * j) l (omega arith) (omega arith)
      ∙ field_here 4 (left_at p j) (to_le 4 (right_at p j)) (omega (arith, permitted_le p a (left_at p j) (a.ends_permitted j l).0))

  in_right : (j : ℕ) → j < p.buckets → field 4 (bucket_offset p.count + right_field + bucket_entry_size * j) (encoded p) ≡ right_at p j
  unfolding million
  in_right j l =
      in-ends j 4 right_field (bucket_offset p.count + right_field + bucket_entry_size * j) l (omega arith) (omega arith)
      ∙ field_next 4 0 4 (left_at p j) (to_le 4 (right_at p j))
      ∙ field_last 4 (right_at p j) (omega (arith, permitted_le p a (right_at p j) (a.ends_permitted j l).1))

  -- ---- the plan that its form holds

  pub plan_back : plan_in (encoded p) ≡ counted p
  unfolding plan_in count_in buckets_in counted
  plan_back =
      rw (
        in_count,
        in-buckets,
        in-delay,
        in-horizon,
        filled_cong p.count _ (threshold_at p) (replicate count_limit 0) in-threshold,
        filled_cong p.count _ (allowance_at p) (replicate count_limit 0) in-allowance,
        filled_cong p.buckets _ (left_at p) (replicate bucket_limit 0) in_left,
        filled_cong p.buckets _ (right_at p) (replicate bucket_limit 0) in_right,
        none,
        filled_none (step_at p) (replicate point_limit 0),
        filled_none (share_at p) (replicate point_limit 0),
      )

  pub form-read : read_refusal (encoded p) ≡ 0
  unfolding count_in buckets_in
  form-read =
      let e = (same_rules p (counted p) (same p a.count_range.1 a.buckets_range.1 a.points_sound.few).counted_same).refusal_same ∙ (accepted p).1 a in
      (readable (encoded p)).1 record {
        long = rw (encoded-length p) (header_fits_lem p.count p.buckets);
        counts = rw (in_count, in-buckets) (a.count_range, a.buckets_range);
        offsets = (in-first, rw in_count in-second);
        sized = rw (in_count, in-buckets) (encoded-length p);
        accepted = rw plan_back e;
      }

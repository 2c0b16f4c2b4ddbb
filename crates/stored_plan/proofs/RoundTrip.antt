-- The statements of specs/RoundTrip hold.
use mathlib.Core.Path.{◌≡◌, refl, sym, ap, ◌∙◌}
use mathlib.Core.List.{List}
use mathlib.Core.Logic.{⊎_elim}
use Prim.Native.Nat.{ℕ, zero, suc, ◌≤◌, ◌<◌}
use native.Mathlib.Omega.{arith}
use lib.ListN.{length, take, drop}
use lib.Seq.{length-take-le, take_all, take_at, drop_at}
use Rattle.plan.specs.Places.{over_to}
use Rattle.plan.specs.Plan.{count_limit, bucket_limit, point_limit, counts_fit}
use Rattle.plan.specs.declared.Plan.{Plan}
use Rattle.plan.specs.SameCounted.{SameCounted}
use Rattle.plan.proofs.PlaceLaws.{le_or_lt}
use Rattle.plan.proofs.PlaceLists.{join_cong}
use Rattle.plan.proofs.AcceptedLaws.{accepted}
use Rattle.plan.proofs.SameCountedLaws.{same_rules}
use Rattle.stored_plan.specs.Form.{count_field, buckets_field, form_size, form_limit, header, threshold_entries, bucket_entries, encoded}
use Rattle.little.specs.Little.{filled}
use Rattle.stored_plan.specs.Reading.{count_in, buckets_in, plan_in, read_refusal, no_plan, decoded_by, decoded}
use Rattle.stored_plan.specs.Writing.{write_refusal, written_by, bytes_by, written, bytes_after}
use Rattle.stored_plan.specs.RoundTrip.{PlanBack, BytesBack, WrittenBack, ReadBack, FormLength, cut_at, CutReading}
use Rattle.stored_plan.specs.RoundTrip.{AcceptedForms, AcceptedWritings, FormWritten, NoneOnRefusal, IgnoredInForm, Zeros}
use Rattle.little.proofs.LittleLaws.{field_cut}
use Rattle.stored_plan.proofs.FormLaws.{longest, encoded-length}
use Rattle.stored_plan.proofs.Refusals.{readable, overlong_form, overlong, decoded_none, decoded_some, writable, pointed, written_none, written_some}
use Rattle.little.proofs.FilledLaws.{filled_past}
use Rattle.stored_plan.proofs.PlanBack.{same, plan_back, form-read}
use Rattle.stored_plan.proofs.BytesBack.{bytes_back}

-- the refusal that is handed back is that of the reading, of the writing
read_refusal_lem : (bytes : List ℕ) → (decoded bytes).refusal ≡ read_refusal bytes
unfolding decoded
read_refusal_lem bytes = go (read_refusal bytes)
  where
    go : (r : ℕ) → (decoded_by r bytes).refusal ≡ r
    go zero = refl
    go (suc r) = refl

write_refusal_lem : (p : Plan) (bytes : List ℕ) → (written p bytes).refusal ≡ write_refusal p bytes
unfolding written
write_refusal_lem p bytes = go (write_refusal p bytes)
  where
    go : (r : ℕ) → (written_by r p).refusal ≡ r
    go zero = refl
    go (suc r) = refl

pub plan_back_holds : PlanBack
plan_back_holds p e none =
    let a = (accepted p).0 e in
    let d = decoded_none (encoded p) (form-read p a none) in
    rw (← d, plan_back p a none) (refl, same p a.count_range.1 a.buckets_range.1 a.points_sound.few)

pub bytes_back_holds : BytesBack
bytes_back_holds bytes each e =
    let z = sym (read_refusal_lem bytes) ∙ e in
    rw (← decoded_none bytes z) (bytes_back bytes each z)

pub form_length_holds : FormLength
form_length_holds p e =
    let a = (accepted p).0 e in
    (encoded-length p, rw (encoded-length p) (longest p.count p.buckets (a.count_range, a.buckets_range)))

-- bytes that are cut behind the longest form
module _ (n : ℕ) (h : form_limit < n) (bytes : List ℕ) (l : n ≤ length bytes) where
  counts_cut : counts_fit (count_in (take n bytes)) (buckets_in (take n bytes)) ≡ counts_fit (count_in bytes) (buckets_in bytes)
  unfolding count_in buckets_in
  counts_cut = rw (field_cut 2 count_field n bytes (omega arith) l, field_cut 2 buckets_field n bytes (omega arith) l)

  cut_same : decoded (take n bytes) ≡ decoded bytes
  cut_same =
      let long : form_limit < length (take n bytes) = rw (length-take-le n bytes l) h in
      let form = sym (overlong_form (take n bytes) long _ counts_cut) ∙ overlong_form bytes (omega arith) _ refl in
      sym (overlong (take n bytes) long) ∙ rw form (overlong bytes (omega arith))

pub cut-reading-holds : CutReading
cut-reading-holds bytes =
    ⊎_elim (λ h. ap decoded (take_all cut_at bytes h)) (λ h. cut_same cut_at (omega arith) bytes (omega arith)) (le_or_lt (length bytes) cut_at)

no_points : (bytes : List ℕ) → (plan_in bytes).points ≡ 0
unfolding plan_in
no_points bytes = refl

pub accepted_forms_hold : AcceptedForms
unfolding decoded no_plan
accepted_forms_hold bytes each = (
  (
    λ e. let z = sym (read_refusal_lem bytes) ∙ e in (plan_in bytes, ((readable bytes).0 z).accepted, no_points bytes, sym (bytes_back bytes each z)),
    λ s. read_refusal_lem bytes ∙ rw s.3 (form-read s.0 ((accepted s.0).0 s.1) s.2),
  ),
  decoded_points (read_refusal bytes),
)
  where
    decoded_points : (r : ℕ) → (decoded_by r bytes).plan.points ≡ 0
    decoded_points zero = no_points bytes
    decoded_points (suc r) = refl

pub accepted_writings_hold : AcceptedWritings
accepted_writings_hold p bytes =
    let w = writable p bytes in
    rw (write_refusal_lem p bytes, encoded-length p)
    ((λ e. let h = w.0 e in (h.0, h.1.0, h.1.1), λ h. w.1 (h.0, (h.1, h.2))), pointed p bytes)

pub form_written_holds : FormWritten
form_written_holds p bytes e =
    let w = written_none p bytes (sym (write_refusal_lem p bytes) ∙ e) in
    let n = encoded-length p in
    let rest = drop (form_size p.count p.buckets) bytes in
    rw (← w.0, ← w.1) (take_at (encoded p) rest _ n, drop_at (encoded p) rest _ n)

pub written_back_holds : WrittenBack
written_back_holds p bytes e =
    let h = (accepted_writings_hold p bytes).0.0 e in
    rw (form_written_holds p bytes e).0 (plan_back_holds p h.0 h.1)

pub read_back_holds : ReadBack
read_back_holds bytes lent each e long =
    let z = sym (read_refusal_lem bytes) ∙ e in
    let form = bytes_back bytes each z in
    let size : form_size (plan_in bytes).count (plan_in bytes).buckets ≡ length bytes = sym (encoded-length (plan_in bytes)) ∙ ap length form in
    let w = written_none (plan_in bytes) lent ((writable (plan_in bytes) lent).1 (((readable bytes).0 z).accepted, (no_points bytes, rw size long))) in
    rw (← decoded_none bytes z) (rw size at (sym w.0), rw (form, size) at (sym w.1))

zeros : Zeros no_plan
unfolding no_plan filled over_to
zeros = record {
  counts = (refl, refl, refl);
  times = (refl, refl);
  entries = λ i. (filled_past count_limit 0 (λ k. k) i (omega arith), filled_past count_limit 0 (λ k. k) i (omega arith));
  ends = λ j. (filled_past bucket_limit 0 (λ k. k) j (omega arith), filled_past bucket_limit 0 (λ k. k) j (omega arith));
  points = λ j. (filled_past point_limit 0 (λ k. k) j (omega arith), filled_past point_limit 0 (λ k. k) j (omega arith));
}

pub none_on_refusal_holds : NoneOnRefusal
none_on_refusal_holds = (
  λ bytes n. rw (← decoded_some bytes (decoded bytes).refusal n (sym (read_refusal_lem bytes))) zeros,
  λ p bytes n. let w = written_some p bytes (written p bytes).refusal n (sym (write_refusal_lem p bytes)) in rw (← w.0, ← w.1) (refl, refl),
)

module _ (p q : Plan) (c : SameCounted p q) where
  thresholds_same : threshold_entries q ≡ threshold_entries p
  unfolding threshold_entries
  thresholds_same = rw c.counts.0 (join_cong p.count _ _ (λ i l. rw ((c.entries i l).0, (c.entries i l).1)))

  buckets_same : bucket_entries q ≡ bucket_entries p
  unfolding bucket_entries
  buckets_same = rw c.counts.1 (join_cong p.buckets _ _ (λ j l. rw ((c.ends j l).0, (c.ends j l).1)))

  form_same : encoded q ≡ encoded p
  unfolding encoded header
  form_same = rw (thresholds_same, buckets_same, c.counts.0, c.counts.1, c.times.0, c.times.1)

  module _ (bytes : List ℕ) where
    refusal_same : write_refusal q bytes ≡ write_refusal p bytes
    unfolding write_refusal
    refusal_same = rw ((same_rules p q c).refusal_same, c.counts.0, c.counts.1, c.counts.2)

    written_same : (r : ℕ) → (written_by r q ≡ written_by r p) × (bytes_by r q bytes ≡ bytes_by r p bytes)
    written_same zero = rw (form_same, c.counts.0, c.counts.1) (refl, refl)
    written_same (suc r) = (refl, refl)

pub ignored_in_form : IgnoredInForm
unfolding written bytes_after
ignored_in_form p q c bytes =
    let w = written_same p q c bytes (write_refusal p bytes) in
    rw (refusal_same p q c bytes) (form_same p q c, w.0, w.1)

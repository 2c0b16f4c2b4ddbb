-- What is handed back, by the refusals of a reading and of a writing in their order (specs/Reading, specs/Writing).
use mathlib.Core.Path.{◌≡◌, refl, sym, ◌∙◌}
use mathlib.Core.Bool.{Bool, true, false}
use mathlib.Core.List.{List, [], ◌∷◌, ◌++◌}
use mathlib.Core.Logic.{◌↔◌}
use Prim.Native.Nat.{ℕ, zero, suc, ◌≤◌, ◌<◌}
use native.Mathlib.Omega.{arith}
use lib.ListN.{length, drop}
use Rattle.std.specs.Prelude.{Result, Ok, Err}
use Rattle.std.specs.Result.{IsErrAnd}
use Rattle.std.proofs.lemmas.Result.{err_from_is_err_and}
use Rattle.walk.specs.Numbers.{le?}
use Rattle.walk.proofs.Tests.{le?_complete}
use Rattle.plan.specs.Places.{eq?}
use Rattle.refusals.specs.Refusals.{number_of, refusal_in, unless, first_refusal}
use Rattle.refusals.specs.declared.Refusal.{Refusal}
use Rattle.refusals.proofs.RefusalLaws.{number_is, handed_on}
use Rattle.plan.specs.Plan.{counts_fit, plan_refusal}
use Rattle.plan.specs.declared.Plan.{Plan}
use Rattle.plan.proofs.PlaceLaws.{both, le_reads, eq?_fails, eq_reads, first_some, first_one, same_number, none_both, none_says, last_says, number_absent, number_here, number-after}
use Rattle.plan.proofs.AcceptedLaws.{Counted, counts_say, plan_other}
use Rattle.little.specs.Little.{field}
use Rattle.stored_plan.specs.Form.{header_size, threshold_offset_field, bucket_offset_field, bucket_offset, form_size, form_limit, encoded}
use Rattle.stored_plan.specs.Reading.{count_in, buckets_in, plan_in, offsets_fit, length_fits, form_refusal, read_refusal, no_plan, decoded, lent_as}
use Rattle.stored_plan.specs.Writing.{write_refusal, written, bytes_after}
use Rattle.stored_plan.proofs.FormLaws.{longest}

-- where `?` hands on a refusal, it is the first of those that were still to be judged
pub stopped : {A : Type 0} (r : Result A Refusal) (d : Refusal) {n : ℕ} (rest : List ℕ) → IsErrAnd r (λ f. f ≡ d) → number_of d ≡ n
    → refusal_in r ≡ first_refusal (n ∷ rest)
stopped r d rest h e = rw (← e) (handed_on r d h (sym (first_some (number_of d) rest (λ z. omega (arith, number_is d)))))

-- ---- a reading

module _ (bytes : List ℕ) where
  pub decoded_none : read_refusal bytes ≡ 0 → record { refusal = 0; plan = plan_in bytes } ≡ decoded bytes
  unfolding decoded
  decoded_none e = rw e

  pub decoded_some : (r : ℕ) → ¬ (r ≡ 0) → read_refusal bytes ≡ r → record { refusal = r; plan = no_plan } ≡ decoded bytes
  unfolding decoded
  decoded_some zero n e = absurd (n refl)
  decoded_some (suc r) n e = rw e

  pub short : le? header_size (length bytes) ≡ false → read_refusal bytes ≡ 7
  unfolding read_refusal
  short e = rw e

  pub past_header : le? header_size (length bytes) ≡ true → read_refusal bytes ≡ first_refusal (form_refusal bytes ∷ plan_refusal (plan_in bytes) ∷ [])
  unfolding read_refusal
  past_header e = rw e

  module _ (e : le? header_size (length bytes) ≡ true) where
    pub form-refused : (r : ℕ) → ¬ (r ≡ 0) → r ≡ form_refusal bytes → read_refusal bytes ≡ r
    form-refused r n f = past_header e ∙ rw (← f) (first_some r (plan_refusal (plan_in bytes) ∷ []) n)

    pub past_form : form_refusal bytes ≡ 0 → read_refusal bytes ≡ plan_refusal (plan_in bytes)
    past_form z = past_header e ∙ rw z (first_one (plan_refusal (plan_in bytes)))

  -- what code hands back, by its refusal; and where `?` hands it on
  pub lent_judged : {A : Type 0} (r : Result A Refusal) (p : Plan) → refusal_in r ≡ read_refusal bytes → p ≡ plan_in bytes → lent_as r p ≡ decoded bytes
  lent_judged (Ok x) p e f = rw f (decoded_none (sym e))
  lent_judged (Err d) p e f = decoded_some (number_of d) (λ z. omega (arith, number_is d)) (sym e)

  pub read_refused : {A : Type 0} (r : Result A Refusal) (d : Refusal) (p : Plan) → IsErrAnd r (λ f. f ≡ d) → read_refusal bytes ≡ number_of d → lent_as r p ≡ decoded bytes
  read_refused r d p h e =
      let q = err_from_is_err_and r h in
      rw (q.1, q.2) (decoded_some (number_of d) (λ z. omega (arith, number_is d)) e)

  -- what the tests of a form say
  abbrev pub Counts : Type 0
  Counts = Counted (count_in bytes) (buckets_in bytes)

  abbrev pub Offsets : Type 0
  Offsets = (field 2 threshold_offset_field bytes ≡ header_size) × (field 2 bucket_offset_field bytes ≡ bucket_offset (count_in bytes))

  abbrev pub Sized : Type 0
  Sized = length bytes ≡ form_size (count_in bytes) (buckets_in bytes)

  offsets_say : (offsets_fit bytes ≡ true) ↔ Offsets
  unfolding offsets_fit
  offsets_say =
      both (eq_reads (field 2 threshold_offset_field bytes) header_size) (eq_reads (field 2 bucket_offset_field bytes) (bucket_offset (count_in bytes)))

  pub form_says : (form_refusal bytes ≡ 0) ↔ (Counts × ((offsets_fit bytes ≡ true) × Sized))
  unfolding form_refusal length_fits
  form_says =
      let count = count_in bytes in
      let buckets = buckets_in bytes in
      let sized = last_says (length_fits bytes) 6 (eq_reads (length bytes) (form_size count buckets)) in
      let from-size = unless (length_fits bytes) 7 ∷ [] in
      none_says (counts_fit count buckets) 0 (unless (offsets_fit bytes) 7 ∷ from-size) (counts_say count buckets)
      (none_says (offsets_fit bytes) 6 from-size (λ e. e, λ e. e) sized)

  -- longer than the longest form: 1 where the counts do not fit, else 7, and no plan
  module _ (h : form_limit < length bytes) where
    pub overlong_form : (b : Bool) → counts_fit (count_in bytes) (buckets_in bytes) ≡ b → first_refusal (unless b 1 ∷ 7 ∷ []) ≡ form_refusal bytes
    unfolding form_refusal length_fits
    overlong_form false e = rw e
    overlong_form true e =
        let count = count_in bytes in
        let buckets = buckets_in bytes in
        let most = longest count buckets ((counts_say count buckets).0 e) in
        rw (e, eq?_fails (length bytes) (form_size count buckets) (λ z. omega arith)) (sym (same_number (offsets_fit bytes) 6))

    pub overlong : record { refusal = form_refusal bytes; plan = no_plan } ≡ decoded bytes
    overlong = decoded_some (form_refusal bytes) some (form-refused (le?_complete header_size (length bytes) (omega arith)) (form_refusal bytes) some refl)
      where
        some : ¬ (form_refusal bytes ≡ 0)
        some z = let s = form_says.0 z in omega (arith, s.1.1, longest (count_in bytes) (buckets_in bytes) s.0)

pub record Readable (bytes : List ℕ) : Type 0 where
  pub long : header_size ≤ length bytes
  pub counts : Counts bytes
  pub offsets : Offsets bytes
  pub sized : Sized bytes
  pub accepted : plan_refusal (plan_in bytes) ≡ 0

module _ (bytes : List ℕ) where
  abbrev plan : ℕ
  plan = plan_refusal (plan_in bytes)

  read_says : (read_refusal bytes ≡ 0) ↔ ((header_size ≤ length bytes) × ((Counts bytes × ((offsets_fit bytes ≡ true) × Sized bytes)) × (plan ≡ 0)))
  unfolding read_refusal
  read_says =
      none_says (le? header_size (length bytes)) 6 (form_refusal bytes ∷ plan ∷ []) (le_reads header_size (length bytes))
      (none_both (form_refusal bytes) (plan ∷ []) (form_says bytes) (λ e. sym (first_one plan) ∙ e, λ e. first_one plan ∙ e))

  pub readable : (read_refusal bytes ≡ 0) ↔ Readable bytes
  readable = (
    λ e. let h = read_says.0 e in record {
      long = h.0;
      counts = h.1.0.0;
      offsets = (offsets_say bytes).0 h.1.0.1.0;
      sized = h.1.0.1.1;
      accepted = h.1.1;
    },
    λ h. read_says.1 (h.long, ((h.counts, ((offsets_say bytes).1 h.offsets, h.sized)), h.accepted)),
  )

-- ---- a writing

module _ (p : Plan) (bytes : List ℕ) where
  abbrev size : ℕ
  size = form_size p.count p.buckets

  -- past the plan's refusals
  abbrev from17 : List ℕ
  from17 = unless (eq? p.points 0) 17 ∷ unless (le? size (length bytes)) 12 ∷ []

  pub writable : (write_refusal p bytes ≡ 0) ↔ ((plan_refusal p ≡ 0) × ((p.points ≡ 0) × (size ≤ length bytes)))
  unfolding write_refusal
  writable =
      let fits = last_says (le? size (length bytes)) 11 (le_reads size (length bytes)) in
      none_both (plan_refusal p) from17 (λ e. e, λ e. e)
      (none_says (eq? p.points 0) 16 (unless (le? size (length bytes)) 12 ∷ []) (eq_reads p.points 0) fits)

  pub pointed : (write_refusal p bytes ≡ 17) ↔ ((plan_refusal p ≡ 0) × (¬ (p.points ≡ 0)))
  unfolding write_refusal
  pointed =
      number-after (plan_refusal p) 17 from17 (plan_other p 17 (omega arith) (λ e. omega arith) (λ e. omega arith))
      (number_here (eq? p.points 0) 16 (unless (le? size (length bytes)) 12 ∷ []) (eq_reads p.points 0)
      (number_absent (le? size (length bytes)) 11 17 [] (λ e. omega arith) (λ e. omega arith)))

  pub written_none : write_refusal p bytes ≡ 0
      → (record { refusal = 0; size = size } ≡ written p bytes) × (encoded p ++ drop size bytes ≡ bytes_after p bytes)
  unfolding written bytes_after
  written_none e = rw e (refl, refl)

  pub written_some : (r : ℕ) → ¬ (r ≡ 0) → write_refusal p bytes ≡ r
      → (record { refusal = r; size = 0 } ≡ written p bytes) × (bytes ≡ bytes_after p bytes)
  unfolding written bytes_after
  written_some zero n e = absurd (n refl)
  written_some (suc r) n e = rw e (refl, refl)

-- Which refusal a reading gives, and refusal 15 in words (specs/Refusals).
use mathlib.Core.Path.{◌≡◌, refl, sym}
use mathlib.Core.Bool.{Bool, true, false}
use mathlib.Core.List.{List, [], ◌∷◌}
use mathlib.Core.Logic.{◌↔◌}
use Prim.Native.Nat.{ℕ, zero, suc, ◌≤◌}
use native.Mathlib.Omega.{arith}
use lib.ListN.{length}
use Rattle.walk.specs.Units.{wide}
use Rattle.walk.specs.declared.Walked.{Walked}
use Rattle.walk.proofs.Tests.{clash}
use Rattle.refusals.specs.Refusals.{unless, first_refusal}
use Rattle.plan.specs.Plan.{plan_refusal}
use Rattle.plan.proofs.PlaceLaws.{both, either, eq_reads, all_say, within_reads, first_some, none_both, none_says, last_says, number_absent, number_here, number-after}
use Rattle.plan.proofs.AcceptedLaws.{plan_other}
use Rattle.bucket_test.specs.Words.{words_fit}
use Rattle.bucket_test.specs.Draw.{state_sound}
use Rattle.bucket_test.proofs.PartLaws.{words_say}
use Rattle.little.specs.Little.{field}
use Rattle.saved_test.specs.Form.{header_size, count_field, masses_field, record_offset_field, mass_offset_field, size_field, record_size_field, mass_size_field}
use Rattle.saved_test.specs.Form.{record_size, mass_size, record_offset, form_size, counts_between}
use Rattle.saved_test.specs.Reading.{mark_of, count_fits, record_from, record_in, record_fits, state_in, words_in, masses_in, header_fits, form_fits, read_refusal}
use Rattle.saved_test.specs.Refusals.{code_in, step_in, FittingRecord, FormFitsTheorem, OlderTheorem, ReadRefusalTheorem}

-- ---- refusal 15 in words

counts_say : (code step : ℕ) (w : Walked) → (count_fits (mark_of code step) w ≡ true)
    ↔ (code ≡ 0 → (1 ≤ counts_between w.lower w.upper) × (counts_between w.lower w.upper ≤ wide))
counts_say zero step w = let s = within_reads 1 wide (counts_between w.lower w.upper) in (λ e z. s.0 e, λ f. s.1 (f refl))
counts_say (suc zero) step w = (λ e z. absurd (omega arith), λ f. refl)
counts_say (suc (suc code)) step w = (λ e z. absurd (omega arith), λ f. refl)

pub record_says : (bytes : List ℕ) (i : ℕ) → (record_fits bytes i ≡ true) ↔ FittingRecord bytes i
unfolding record_fits record_from
record_says bytes i =
    let code = code_in bytes i in
    let step = step_in bytes i in
    let s = both (either (both (eq_reads code 0) (eq_reads step 0)) (either (eq_reads code 1) (eq_reads code 2))) (counts_say code step (record_in bytes i).walked) in
    (λ e. let k = s.0 e in record { mark_is_known = k.0; counts_hold = k.1 }, λ f. s.1 (f.mark_is_known, f.counts_hold))

pub form_says : FormFitsTheorem
unfolding form_fits header_fits
form_says p bytes =
    let masses = masses_in p bytes in
    let size = form_size p.count masses in
    let heads =
    both (eq_reads (field 2 count_field bytes) p.count) (both (eq_reads (field 2 masses_field bytes) masses) (both (eq_reads (field 2 record_offset_field bytes) header_size)
    (both (eq_reads (field 2 mass_offset_field bytes) (record_offset p.count)) (both (eq_reads (field 4 size_field bytes) size)
    (both (eq_reads (field 2 record_size_field bytes) record_size) (eq_reads (field 2 mass_size_field bytes) mass_size)))))) in
    let s = both (eq_reads (length bytes) size) (both heads (all_say (record_fits bytes) (record_says bytes) p.count)) in (
      λ e.
          let k = s.0 e in
          record {
            sized = k.0;
            count = k.1.0.0;
            masses = k.1.0.1.0;
            record_offset_is = k.1.0.1.1.0;
            mass_offset_is = k.1.0.1.1.1.0;
            size = k.1.0.1.1.1.1.0;
            record_size_is = k.1.0.1.1.1.1.1.0;
            mass_size_is = k.1.0.1.1.1.1.1.1;
            records = k.1.1;
          },
      λ f. s.1 (f.sized, ((f.count, (f.masses, (f.record_offset_is, (f.mass_offset_is, (f.size, (f.record_size_is, f.mass_size_is)))))), f.records)),
    )

pub older : OlderTheorem
older p bytes h = go (form_fits p bytes) refl
  where
    go : (b : Bool) → form_fits p bytes ≡ b → b ≡ false
    go true e = absurd (omega (arith, h, ((form_says p bytes).0 e).record_size_is))
    go false e = refl

-- ---- the refusals in their order

-- past a rule of another number; by the rule of that number
after_rule : {A B : Type 0} (b : Bool) (r s : ℕ) (rs : List ℕ) → ¬ (suc r ≡ s) → (b ≡ true) ↔ A → (first_refusal rs ≡ s) ↔ B
    → (first_refusal (unless b (suc r) ∷ rs) ≡ s) ↔ (A × B)
after_rule true r s rs other x y = (λ e. (x.0 refl, y.0 e), λ h. y.1 h.1)
after_rule false r s rs other x y = (λ e. absurd (other e), λ h. clash (sym (x.1 h.0)))

at_rule : (b : Bool) (r : ℕ) (rs : List ℕ) → ¬ (first_refusal rs ≡ suc r) → (first_refusal (unless b (suc r) ∷ rs) ≡ suc r) ↔ (b ≡ false)
at_rule true r rs rest = (λ e. absurd (rest e), λ f. clash f)
at_rule false r rs rest = (λ e. refl, λ f. refl)

pub read_refusal_lem : ReadRefusalTheorem
unfolding read_refusal
read_refusal_lem p bytes words =
    let sound = state_sound p (state_in p bytes) (words_in p bytes) in
    let fits = form_fits p bytes in
    let right = words_fit p words in
    let from11 : List ℕ = unless sound 11 ∷ [] in
    let from15 : List ℕ = unless fits 15 ∷ from11 in
    let from8 : List ℕ = unless right 8 ∷ from15 in
    record {
      by_plan = first_some (plan_refusal p) from8;
      by_8 =
          number-after (plan_refusal p) 8 from8 (plan_other p 8 (omega arith) (λ e. omega arith) (λ e. omega arith))
          (number_here right 7 from15 (words_say p words)
          (number_absent fits 14 8 from11 (λ e. omega arith)
          (number_absent sound 10 8 [] (λ e. omega arith) (λ e. omega arith))));
      by_15 =
          number-after (plan_refusal p) 15 from8 (plan_other p 15 (omega arith) (λ e. omega arith) (λ e. omega arith))
          (after_rule right 7 15 from15 (λ e. omega arith) (words_say p words)
          (at_rule fits 14 from11
          (number_absent sound 10 15 [] (λ e. omega arith) (λ e. omega arith))));
      by_11 =
          number-after (plan_refusal p) 11 from8 (plan_other p 11 (omega arith) (λ e. omega arith) (λ e. omega arith))
          (after_rule right 7 11 from15 (λ e. omega arith) (words_say p words)
          (after_rule fits 14 11 from11 (λ e. omega arith) (same fits)
          (at_rule sound 10 [] (λ e. omega arith))));
      by_none =
          none_both (plan_refusal p) from8 (λ e. e, λ e. e)
          (none_says right 7 from15 (words_say p words)
          (none_says fits 14 from11 (same fits)
          (last_says sound 10 (same sound))));
    }
  where
    same : (b : Bool) → (b ≡ true) ↔ (b ≡ true)
    same b = (λ e. e, λ e. e)

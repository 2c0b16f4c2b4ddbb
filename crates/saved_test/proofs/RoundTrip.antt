-- The statements of specs/RoundTrip hold.
use mathlib.Core.Path.{◌≡◌, refl, sym, ap, ◌∙◌}
use mathlib.Core.Logic.{◌↔◌}
use mathlib.Core.List.{List, [], ◌∷◌, ◌++◌}
use Prim.Native.Nat.{ℕ, zero, suc, ◌≤◌}
use lib.ListN.{length, take, drop, get_or}
use lib.Seq.{get_or-take, take_at}
use Rattle.walk.specs.Numbers.{le?}
use Rattle.refusals.specs.Refusals.{unless}
use Rattle.plan.specs.declared.Plan.{Plan}
use Rattle.plan.proofs.PlaceLaws.{none_both, last_says, le_reads}
use Rattle.plan.proofs.PlaceLists.{join_cong}
use Rattle.bucket_test.specs.Words.{part_at}
use Rattle.bucket_test.specs.Turn.{record_at}
use Rattle.bucket_test.specs.Draw.{no_state}
use Rattle.bucket_test.specs.declared.State.{State}
use Rattle.little.specs.Little.{to_le}
use Rattle.saved_test.specs.Form.{mass_size, live_count, record_bytes, mass_bytes, saved_size, header, saved_header, record_entries, mass_entries, saved_form}
use Rattle.saved_test.specs.Writing.{save_refusal, write_refusal, saved_by, bytes_by, saved, bytes_after}
use Rattle.saved_test.specs.Reading.{state_in, words_in, read_refusal, loaded_by, words_by, loaded, words_after}
use Rattle.saved_test.specs.Alike.{Alike}
use Rattle.saved_test.specs.RoundTrip.{TestBack, BytesBack, WrittenBack, LoadedBack, AcceptedForms, SameBytes, FormLength, NoneOnRefusal}
use Rattle.saved_test.proofs.Sizes.{form-length}
use Rattle.saved_test.proofs.Judged.{masses_cong, size_limit_lem}
use Rattle.saved_test.proofs.TestBack.{test_back, not_refused}
use Rattle.saved_test.proofs.BytesBack.{bytes_back}

-- ---- what the entries hand back, by their refusal

module _ (p : Plan) (bytes words : List ℕ) where
  load_refusal : (loaded p bytes words).refusal ≡ read_refusal p bytes words
  unfolding loaded
  load_refusal = go (read_refusal p bytes words)
    where
      go : (r : ℕ) → (loaded_by p bytes r).refusal ≡ r
      go zero = refl
      go (suc r) = refl

  loaded_none : read_refusal p bytes words ≡ 0 → (loaded p bytes words ≡ record { refusal = 0; state = state_in p bytes }) × (words_after p bytes words ≡ words_in p bytes)
  unfolding loaded words_after
  loaded_none e = rw e (refl, refl)

  loaded_some : ¬ (read_refusal p bytes words ≡ 0) → ((loaded p bytes words).state ≡ no_state) × (words_after p bytes words ≡ words)
  unfolding loaded words_after
  loaded_some n = go (read_refusal p bytes words) n
    where
      go : (r : ℕ) → ¬ (r ≡ 0) → ((loaded_by p bytes r).state ≡ no_state) × (words_by p bytes r words ≡ words)
      go zero n = absurd (n refl)
      go (suc r) n = (refl, refl)

module _ (p : Plan) (s : State) (words bytes : List ℕ) where
  save_refusal_lem : (saved p s words bytes).refusal ≡ write_refusal p s words bytes
  unfolding saved
  save_refusal_lem = go (write_refusal p s words bytes)
    where
      go : (r : ℕ) → (saved_by p s words r).refusal ≡ r
      go zero = refl
      go (suc r) = refl

  saved_none : write_refusal p s words bytes ≡ 0
      → (saved p s words bytes ≡ record { refusal = 0; size = saved_size p s }) × (bytes_after p s words bytes ≡ saved_form p s words ++ drop (saved_size p s) bytes)
  unfolding saved bytes_after
  saved_none e = rw e (refl, refl)

  saved_some : ¬ (write_refusal p s words bytes ≡ 0) → ((saved p s words bytes).size ≡ 0) × (bytes_after p s words bytes ≡ bytes)
  unfolding saved bytes_after
  saved_some n = go (write_refusal p s words bytes) n
    where
      go : (r : ℕ) → ¬ (r ≡ 0) → ((saved_by p s words r).size ≡ 0) × (bytes_by p s words r bytes ≡ bytes)
      go zero n = absurd (n refl)
      go (suc r) n = (refl, refl)

  -- a writing accepts where there is room
  writable : (write_refusal p s words bytes ≡ 0) ↔ ((save_refusal p s words ≡ 0) × (saved_size p s ≤ length bytes))
  unfolding write_refusal
  writable =
      none_both (save_refusal p s words) (unless (le? (saved_size p s) (length bytes)) 12 ∷ []) (λ e. e, λ e. e)
      (last_says (le? (saved_size p s) (length bytes)) 11 (le_reads (saved_size p s) (length bytes)))

pub test_back_holds : TestBack
test_back_holds = test_back

pub bytes_back_holds : BytesBack
bytes_back_holds = bytes_back

pub form_length_holds : FormLength
form_length_holds p s words may = (form-length p s words, size_limit_lem p s words may)

pub accepted_forms_hold : AcceptedForms
accepted_forms_hold p bytes lent each size = (
  λ e. let b = bytes_back p bytes lent each e in (state_in p bytes, words_in p bytes, b.0, sym b.1),
  λ s. rw s.3 (not_refused p s.0 s.1 s.2 lent size),
)

pub written_back_holds : WrittenBack
written_back_holds p s words bytes lent typed e size =
    let z = sym (save_refusal_lem p s words bytes) ∙ e in
    let w = saved_none p s words bytes z in
    let form = take_at (saved_form p s words) (drop (saved_size p s) bytes) (saved_size p s) (form-length p s words) in
    let b = test_back p s words lent (record { accepted = ((writable p s words bytes).0 z).0; typed = typed }) size in
    let l = loaded_none p (saved_form p s words) lent b.0 in
    rw (w.0, w.1, form, l.0, l.1) (refl, b.1)

pub loaded_back_holds : LoadedBack
loaded_back_holds p bytes words lent each e long =
    let z = sym (load_refusal p bytes words) ∙ e in
    let l = loaded_none p bytes words z in
    let b = bytes_back p bytes words each z in
    let size : saved_size p (state_in p bytes) ≡ length bytes = sym (form-length p (state_in p bytes) (words_in p bytes)) ∙ ap length b.1 in
    let w = saved_none p (state_in p bytes) (words_in p bytes) lent ((writable p (state_in p bytes) (words_in p bytes) lent).1 (b.0.accepted, rw size long)) in
    rw (l.0, l.1) (rw size at w.0, rw (b.1, size) at w.1)

pub none_on_refusal_holds : NoneOnRefusal
none_on_refusal_holds = (
  λ p bytes words n. loaded_some p bytes words (rw (load_refusal p bytes words) at n),
  λ p s words bytes n. saved_some p s words bytes (rw (save_refusal_lem p s words bytes) at n),
)

-- ---- equal tests have equal bytes

pub masses_same : (count : ℕ) (part part' : List ℕ) → take count part' ≡ take count part → mass_bytes count part' ≡ mass_bytes count part
unfolding mass_bytes
masses_same count part part' e =
    join_cong count _ _ (λ j l. ap (to_le mass_size) (sym (get_or-take count part' j 0 l) ∙ ap (λ (xs : List ℕ). get_or xs j 0) e ∙ get_or-take count part j 0 l))

module _ (p : Plan) (s : State) (words : List ℕ) (s' : State) (words' : List ℕ) (h : Alike p s words s' words') where
  header_same : saved_header p s' ≡ saved_header p s
  unfolding header
  header_same = rw (masses_cong (record_at s') (record_at s) p.count h.record_same, h.n_same, h.ones_same)

  records_same : record_entries p s' ≡ record_entries p s
  unfolding record_entries
  records_same = join_cong p.count _ _ (λ i l. ap record_bytes (h.record_same i l))

  entries_same : mass_entries p s' words' ≡ mass_entries p s words
  unfolding mass_entries
  entries_same =
      join_cong p.count _ _
      (λ i l. rw (h.record_same i l) (masses_same (live_count (record_at s i)) (part_at i words) (part_at i words') (h.masses_same i l)))

  form_same : saved_form p s' words' ≡ saved_form p s words
  unfolding saved_form
  form_same = rw (header_same, records_same, entries_same)

pub same_bytes_hold : SameBytes
same_bytes_hold = form_same

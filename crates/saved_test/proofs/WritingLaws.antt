-- What the code of src/writing.rt leaves to do, in plain variables.
use mathlib.Core.Path.{◌≡◌, refl, sym, ap, ◌∙◌}
use mathlib.Core.Bool.{true}
use mathlib.Core.List.{List, ◌++◌, append_assoc}
use Prim.Native.Nat.{ℕ, zero, suc, ◌+◌, ◌*◌, ◌≤◌, ◌<◌}
use native.Mathlib.Numerals.{add-one}
use native.Mathlib.Omega.{arith}
use lib.Dec.{leb}
use lib.ListN.{length, drop, get_or, length-append}
use mir.Syntax.{w32}
use mir.Val.{of_z}
use Rattle.walk.specs.Units.{wide}
use Rattle.plan.specs.Places.{join_to}
use Rattle.std.specs.Prelude.{Result, Ok}
use Rattle.std.specs.Result.{IsErrAnd}
use Rattle.std.proofs.lemmas.Result.{err_from_is_err_and}
use Rattle.refusals.specs.Refusals.{number_of}
use Rattle.refusals.specs.declared.Refusal.{Refusal}
use Rattle.refusals.proofs.RefusalLaws.{number_is}
use Rattle.plan.specs.Plan.{count_limit, plan_refusal}
use Rattle.bucket_test.specs.Words.{part_at}
use Rattle.bucket_test.specs.Turn.{no_record, record_at}
use Rattle.bucket_test.specs.Draw.{state_sound}
use Rattle.plan.specs.declared.Plan.{Plan}
use Rattle.bucket_test.specs.declared.Threshold.{Threshold}
use Rattle.bucket_test.specs.declared.State.{State}
use Rattle.plan.proofs.PlaceLaws.{first_some}
use Rattle.little.specs.Little.{to_le, put_at}
use Rattle.little.proofs.LittleLaws.{to_length}
use Rattle.little.proofs.Putting.{then, put_first, put_drop}
use Rattle.saved_test.specs.Form.{header_size, record_size, mass_size, record_offset, form_size, live_count, masses_to, mark_code, mark_step, record_bytes, mass_bytes, saved_masses, saved_size, header, saved_header, record_entries, mass_entries, saved_form}
use Rattle.saved_test.specs.Writing.{save_refusal, write_refusal, Saved, saved_as, saved, bytes_after}
use Rattle.walk.specs.Numbers.{le?}
use Rattle.plan.proofs.AcceptedLaws.{accepted}
use Rattle.saved_test.proofs.Judged.{save_says, known_at, masses_few, masses_cong}
use Rattle.saved_test.proofs.Sizes.{masses_length, header-length, front_length, entries_length}
use Rattle.saved_test.proofs.BytesBack.{masses_within}

-- ---- a record, by its numbers

module _ (t : Threshold) (at code step bits : ℕ) (c : code ≡ mark_code t.mark) (s : step ≡ mark_step t.mark) (b : bits ≡ of_z w32 t.walked.lower) where
  pub record_put : (b₀ b₁ b₂ b₃ b₄ b₅ : List ℕ) → b₁ ≡ put_at at (to_le 4 code ++ to_le 4 step) b₀
      → b₂ ≡ put_at (at + 8) (to_le 4 bits ++ to_le 4 t.walked.upper) b₁
      → b₃ ≡ put_at (at + 16) (to_le 8 t.walked.over) b₂
      → b₄ ≡ put_at (at + 24) (to_le 8 t.walked.under) b₃
      → b₅ ≡ put_at (at + 32) (to_le 4 t.walked.rounded) b₄
      → at ≤ length b₀ → b₅ ≡ put_at at (record_bytes t) b₀
  unfolding record_bytes
  record_put b₀ b₁ b₂ b₃ b₄ b₅ e f g k l h =
      let one = to_le 4 code ++ to_le 4 step in
      let two = to_le 4 bits ++ to_le 4 t.walked.upper in
      let three = to_le 8 t.walked.over in
      let four = to_le 8 t.walked.under in
      let f2 = then at one two b₀ b₁ b₂ (at + 8) e f h (simp (length-append, to_length)) in
      let f3 = then at (one ++ two) three b₀ b₂ b₃ (at + 16) f2 g h (simp (length-append, to_length)) in
      let f4 = then at ((one ++ two) ++ three) four b₀ b₃ b₄ (at + 24) f3 k h (simp (length-append, to_length)) in
      let whole : b₅ ≡ put_at at ((((one ++ two) ++ three) ++ four) ++ to_le 4 t.walked.rounded) b₀ =
      then at (((one ++ two) ++ three) ++ four) (to_le 4 t.walked.rounded) b₀ b₄ b₅ (at + 32) f4 l h (simp (length-append, to_length)) in
      rw (← c, ← s, ← b) (simp append_assoc at whole)

-- ---- the header, by its four pairs of numbers and the last

module _ (count masses n ones : ℕ) where
  pub header_put : (b₀ b₁ b₂ b₃ b₄ b₅ : List ℕ) → b₁ ≡ put_at 0 (to_le 2 count ++ to_le 2 masses) b₀
      → b₂ ≡ put_at 4 (to_le 2 header_size ++ to_le 2 (header_size + record_size * count)) b₁
      → b₃ ≡ put_at 8 (to_le 4 (header_size + record_size * count + mass_size * masses) ++ to_le 4 n) b₂
      → b₄ ≡ put_at 16 (to_le 4 ones ++ to_le 2 record_size) b₃
      → b₅ ≡ put_at 22 (to_le 2 mass_size) b₄
      → b₅ ≡ put_at 0 (header count masses n ones) b₀
  unfolding header form_size record_offset
  header_put b₀ b₁ b₂ b₃ b₄ b₅ e1 e2 e3 e4 e5 =
      let one = to_le 2 count ++ to_le 2 masses in
      let two = to_le 2 header_size ++ to_le 2 (header_size + record_size * count) in
      let three = to_le 4 (header_size + record_size * count + mass_size * masses) ++ to_le 4 n in
      let four = to_le 4 ones ++ to_le 2 record_size in
      let f2 = then 0 one two b₀ b₁ b₂ 4 e1 e2 (omega arith) (simp (length-append, to_length)) in
      let f3 = then 0 (one ++ two) three b₀ b₂ b₃ 8 f2 e3 (omega arith) (simp (length-append, to_length)) in
      let f4 = then 0 ((one ++ two) ++ three) four b₀ b₃ b₄ 16 f3 e4 (omega arith) (simp (length-append, to_length)) in
      let whole : b₅ ≡ put_at 0 ((((one ++ two) ++ three) ++ four) ++ to_le 2 mass_size) b₀ =
      then 0 (((one ++ two) ++ three) ++ four) (to_le 2 mass_size) b₀ b₄ b₅ 22 f4 e5 (omega arith) (simp (length-append, to_length)) in
      simp append_assoc at whole

-- ---- one entry more, where entries differ in length

module _ (records : ℕ → Threshold) (parts : ℕ → List ℕ) where
  abbrev entry : ℕ → List ℕ
  entry i = mass_bytes (live_count (records i)) (parts i)

  pub masses_next : (at i : ℕ) (b b' b'' : List ℕ) → b' ≡ put_at at (join_to i entry) b → b'' ≡ put_at (at + 8 * masses_to records i) (entry i) b'
      → at ≤ length b → b'' ≡ put_at at (join_to (i + 1) entry) b
  unfolding join_to
  masses_next at i b b' b'' e f h =
      rw (add-one i) (then at (join_to i entry) (entry i) b b' b'' (at + 8 * masses_to records i) e f h (rw (masses_length records parts i)))

-- ---- the records of a plan's thresholds, as a slice

join_cong : (f g : ℕ → List ℕ) (n : ℕ) → ((i : ℕ) → i < n → f i ≡ g i) → join_to n f ≡ join_to n g
unfolding join_to
join_cong f g zero h = refl
join_cong f g (suc n) h = rw (join_cong f g n (λ i l. h i (omega arith)), h n (omega arith))

module _ (p : Plan) (s : State) (records : List Threshold) (long : length records ≡ p.count)
    (same : (i : ℕ) → i < p.count → get_or records i no_record ≡ record_at s i) where
  pub masses_counted : masses_to (λ i. get_or records i no_record) (length records) ≡ saved_masses p s
  masses_counted = rw long (masses_cong _ _ p.count same)

  pub few_counted : ((i : ℕ) → i < p.count → live_count (record_at s i) ≤ wide) → (i : ℕ) → i < length records → live_count (get_or records i no_record) ≤ wide
  few_counted few i l = let h : i < p.count = omega (arith, long, l) in rw (same i h) (few i h)

  pub records_counted : join_to (length records) (λ i. record_bytes (get_or records i no_record)) ≡ join_to p.count (λ i. record_bytes (record_at s i))
  records_counted = rw long (join_cong _ _ p.count (λ i l. ap record_bytes (same i l)))

  pub entries_counted : (words : List ℕ)
      → join_to (length records) (λ i. mass_bytes (live_count (get_or records i no_record)) (part_at i words))
      ≡ join_to p.count (λ i. mass_bytes (live_count (record_at s i)) (part_at i words))
  entries_counted words =
      rw long (join_cong _ _ p.count (λ i l. ap (λ (t : Threshold). mass_bytes (live_count t) (part_at i words)) (same i l)))

-- ---- the masses of a threshold, as code puts them

module _ (records : List Threshold) (words : List ℕ) (base i n at : ℕ) (live : n ≡ live_count (get_or records i no_record))
    (here : at ≡ base + 8 * masses_to (λ k. get_or records k no_record) i) where
  abbrev each : ℕ → List ℕ
  each k = mass_bytes (live_count (get_or records k no_record)) (part_at k words)

  pub masses_put : (q b b' b'' : List ℕ) → q ≡ part_at i words → b' ≡ put_at base (join_to i each) b → b'' ≡ put_at at (mass_bytes n q) b' → base ≤ length b
      → b'' ≡ put_at base (join_to (i + 1) each) b
  masses_put q b b' b'' w e f h =
      masses_next (λ k. get_or records k no_record) (λ k. part_at k words) base i b b' b'' e (f ∙ rw (live, here, w)) h

  pub masses_at : at + 8 * n ≡ base + 8 * masses_to (λ k. get_or records k no_record) (i + 1)
  unfolding masses_to
  masses_at = rw (add-one i, here, live) (omega arith)

  pub masses_room : (count room : ℕ) → i < count → base + 8 * masses_to (λ k. get_or records k no_record) count ≤ room → at + 8 * n ≤ room
  masses_room count room l h = omega (arith, live, here, masses_within (λ k. get_or records k no_record) count i l)

-- ---- a form that is put

module _ (p : Plan) (s : State) (words bytes : List ℕ) where
  -- masses first, then header and records in front of them
  pub form_put : (b₁ b₂ : List ℕ)
      → b₁ ≡ put_at (header_size + record_size * p.count) (join_to p.count (λ i. mass_bytes (live_count (record_at s i)) (part_at i words))) bytes
      → b₂ ≡ put_at 0 (saved_header p s ++ record_entries p s) b₁
      → header_size + record_size * p.count ≤ length bytes
      → b₂ ≡ saved_form p s words ++ drop (saved_size p s) bytes
  unfolding saved_form mass_entries record_offset form_size
  form_put b₁ b₂ e f long =
      let front = saved_header p s ++ record_entries p s in
      let at = header_size + record_size * p.count in
      let rear = mass_entries p s words in
      let size : at + length rear ≡ saved_size p s = omega (arith, entries_length p s words) in
      let behind : drop (length front) b₁ ≡ rear ++ drop (saved_size p s) bytes =
      ap (λ (n : ℕ). drop n b₁) (front_length p s) ∙ ap (drop at) e ∙ put_drop at rear bytes long ∙ ap (λ (n : ℕ). rear ++ drop n bytes) size in
      f ∙ put_first front b₁ ∙ ap (λ (r : List ℕ). front ++ r) behind ∙ sym (append_assoc front rear (drop (saved_size p s) bytes))
      ∙ ap (λ (r : List ℕ). r ++ drop (saved_size p s) bytes) (append_assoc (saved_header p s) (record_entries p s) rear)

-- header, then records
pub front_put : (p : Plan) (s : State) (bytes b₁ b₂ : List ℕ) → b₁ ≡ put_at 0 (saved_header p s) bytes
    → b₂ ≡ put_at header_size (join_to p.count (λ i. record_bytes (record_at s i))) b₁ → b₂ ≡ put_at 0 (saved_header p s ++ record_entries p s) bytes
unfolding record_entries
front_put p s bytes b₁ b₂ e f = then 0 (saved_header p s) (record_entries p s) bytes b₁ b₂ header_size e f (omega arith) (omega (arith, header-length p s))

pub size_is : (p : Plan) (s : State) (masses : ℕ) → masses ≡ saved_masses p s → header_size + record_size * p.count + mass_size * masses ≡ saved_size p s
unfolding form_size record_offset
size_is p s masses e = rw e

-- .. is compared with the room that there is
pub as_room : {r v : ℕ} → r ≡ v → (x : ℕ) → leb r x ≡ le? v x
unfolding le?
as_room e x = ap (λ (y : ℕ). leb y x) e

-- at most 769 masses for each threshold
pub few_masses : (p : Plan) (s : State) (masses : ℕ) → masses ≡ saved_masses p s → p.count ≤ count_limit
    → ((i : ℕ) → i < p.count → live_count (record_at s i) ≤ wide) → masses ≤ wide * count_limit
unfolding wide
few_masses p s masses e few each = rw e (omega (arith, masses_few (record_at s) p.count each, few))

-- ---- each way out of a writing

module _ (p : Plan) (s : State) (words bytes : List ℕ) where
  abbrev Hands : Result ℕ Refusal → List ℕ → Type 0
  Hands r bs = (saved_as r ≡ saved p s words bytes) × (bs ≡ bytes_after p s words bytes)

  -- a refusal that `?` hands on
  pub write_refused : (r : Result ℕ Refusal) (d : Refusal) → IsErrAnd r (λ f. f ≡ d) → number_of d ≡ write_refusal p s words bytes → Hands r bytes
  unfolding saved bytes_after
  write_refused r d h e = let q = err_from_is_err_and r h in rw (q.1, q.2) (go (number_of d) (number_is d) e)
    where
      go : (n : ℕ) → 1 ≤ n → n ≡ write_refusal p s words bytes
          → (◌≡◌ {A = Saved} (record { refusal = n; size = 0 }) (saved p s words bytes)) × (bytes ≡ bytes_after p s words bytes)
      go zero l e = absurd (omega (arith, l))
      go (suc n) l e = rw (← e) (refl, refl)

  pub write_plan : (d : Refusal) → number_of d ≡ plan_refusal p → number_of d ≡ write_refusal p s words bytes
  unfolding write_refusal save_refusal
  write_plan d e =
      let some : ¬ (number_of d ≡ 0) = λ z. omega (arith, number_is d, z) in
      rw (← e, first_some (number_of d) _ some) (sym (first_some (number_of d) _ some))

  pub write_none : write_refusal p s words bytes ≡ 0 → (n : ℕ) → n ≡ saved_size p s → (bs : List ℕ) → bs ≡ saved_form p s words ++ drop (saved_size p s) bytes
      → Hands (Ok n) bs
  unfolding saved bytes_after
  write_none none n ne bs be = rw (none, ne, be) (refl, refl)

-- what a test that may be saved gives to the functions that write
module _ (p : Plan) (s : State) (words : List ℕ) (may : save_refusal p s words ≡ 0) where
  judged : (plan_refusal p ≡ 0) × ((length words ≡ wide * p.count) × (state_sound p s words ≡ true))
  judged = (save_says p s words).0 may

  pub counts_few : p.count ≤ count_limit
  counts_few = ((accepted p).0 judged.0).count_range.1

  pub words_size : length words ≡ wide * p.count
  words_size = judged.1.0

  pub live_few : (i : ℕ) → i < p.count → live_count (record_at s i) ≤ wide
  live_few i l = (known_at p s words judged.1.1 i l).few

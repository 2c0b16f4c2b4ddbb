-- A draw that only 12 can refuse (specs/Inner: Ready, Took): what its turns ask, what they leave under its plan, and the ways out.
use mathlib.Core.Path.{◌≡◌, refl, sym, ap, ap₂, ◌∙◌}
use mathlib.Core.Bool.{true, false, ◌&&◌}
use mathlib.Core.List.{List, ◌++◌}
use Prim.Native.Nat.{ℕ, zero, suc, ◌+◌, ◌≤◌, ◌<◌, max}
use native.Mathlib.Omega.{arith}
use borrow.Author.Tests.{eqb-false}
use lib.IntN.{ℤ, pos, negsuc}
use lib.ListN.{length, drop}
use Rattle.std.specs.List.{range_with_len, fold}
use Rattle.walk.specs.Numbers.{le?, eq_z?}
use Rattle.walk.specs.Units.{million, wide, horizon_limit}
use Rattle.walk.specs.Walk.{below, wide?}
use Rattle.walk.specs.Strings.{mark_open}
use Rattle.walk.specs.Record.{is_wide}
use Rattle.walk.specs.declared.Mark.{Mark}
use Rattle.walk.specs.declared.Mark.TheVariants.{Open, Above, AtMost}
use Rattle.walk.proofs.Tests.{le?_sound}
use Rattle.walk.proofs.Boundaries.{wide_fails}
use Rattle.plan.specs.Plan.{count_limit, bucket_limit, Accepted}
use Rattle.plan.specs.declared.Plan.{Plan}
use Rattle.plan.proofs.PlaceLaws.{any_cong, largest_cong, smallest_cong}
use Rattle.plan.proofs.PlaceLists.{join_cong}
use Rattle.plan.proofs.AcceptedLaws.{accepted}
use Rattle.bucket_test.specs.Words.{part_at}
use Rattle.bucket_test.specs.Turn.{record_at}
use Rattle.bucket_test.specs.Answers.{answer_of}
use Rattle.bucket_test.specs.Draw.{next_state, next_words}
use Rattle.bucket_test.specs.declared.Threshold.{Threshold}
use Rattle.bucket_test.specs.declared.State.{State}
use Rattle.bucket_test.proofs.AnsweringLaws.{not_over, thin_at}
use Rattle.bucket_test.proofs.DrawingLaws.{ones_fit, early, all_may_turn, drawn_by_lem, Drawable, drawable}
use Rattle.bucket_test.proofs.OneStep.{record_next, part_next}
use Rattle.little.specs.Little.{field, put_at}
use Rattle.little.proofs.Putting.{put_before, put_first}
use Rattle.saved_test.specs.Form.{header_size, draws_field, ones_field, record_offset, form_size, form_limit, counts_between, live_by, masses_to, record_bytes, saved_size, header, saved_header, record_entries, mass_entries, saved_form}
use Rattle.saved_test.specs.Reading.{record_in, state_in, words_in}
use Rattle.saved_test.proofs.Judged.{masses_cong}
use Rattle.saved_test.proofs.HeldLaws.{record_held, part_held}
use Rattle.saved_test.proofs.Sizes.{header-length, form-length}
use Rattle.saved_test.proofs.ReadingLaws.{part_few, form_held}
use Rattle.calls.proofs.TurnLaws.{new_small}
use Rattle.saved_test.specs.Inner.{RecordsAndMasses}
use Rattle.calls.specs.Inner.{Seen, new_record, new_part, new_size, new_entries, Turns, PartHoldsOneMore, Ready, outcome, Took}
use Rattle.calls.specs.declared.Standing.{Standing}
use Rattle.std.specs.Prelude.{Ok, Err}
use Rattle.refusals.specs.Refusals.{number_of}
use Rattle.refusals.specs.declared.Refusal.{Refusal}

-- ---- one threshold

-- fewer than 769 masses, where its boundaries count no more than 769 and it is not wide
thin_under : (b u : ℕ) → wide? u (negsuc b) ≡ false → ¬ (u + b ≡ wide)
unfolding wide? eq_z? wide
thin_under b u thin e = eqb-false (u + suc b) 770 thin (omega arith)

thin_count : (z : ℤ) (u : ℕ) → wide? u z ≡ false → ¬ (counts_between z u ≡ wide)
unfolding counts_between below wide
thin_count (pos b) u thin e = (wide_fails u (suc b) (omega arith)).0 thin (omega arith)
thin_count (negsuc b) u thin e = thin_under b u thin e

few_by : (t : Threshold) (m : Mark) → (mark_open m && is_wide t.walked) ≡ false → live_by m t.walked ≤ wide → live_by m t.walked < wide
unfolding is_wide wide
few_by t Open thin few = omega (arith, thin_count t.walked.lower t.walked.upper thin)
few_by t (Above u) thin few = omega arith
few_by t (AtMost u) thin few = omega arith

-- ---- under a plan

header_cong : {m m' n n' o o' : ℕ} (k : ℕ) → m ≡ m' → n ≡ n' → o ≡ o' → header k m n o ≡ header k m' n' o'
header_cong k m n o = rw (m, n, o)

module _ {p : Plan} {bytes : List ℕ} {d : ℕ} (j : Ready p bytes d) where
  abbrev s : State
  s = state_in p bytes

  abbrev ws : List ℕ
  ws = words_in p bytes

  abbrev next : State
  next = next_state p s ws d

  h : Drawable p s ws d
  h = drawable p s ws d j.unrefused

  ok : Accepted p
  ok = (accepted p).0 h.good

  pub ready_few : p.count ≤ count_limit
  ready_few = ok.count_range.1

  pub few_buckets : p.buckets ≤ bucket_limit
  few_buckets = ok.buckets_range.1

  held : RecordsAndMasses p.count bytes
  held = form_held p bytes j.form

  pub ready_long : record_offset p.count ≤ length bytes
  unfolding form_size
  ready_long = omega (arith, held.sized)

  pub numbered : ones_field + 4 ≤ length bytes
  unfolding form_size record_offset
  numbered = omega (arith, held.sized)

  in-time : s.n < horizon_limit
  in-time = early p s ws h.good h.long h.going h.sound

  ones_few : s.ones ≤ s.n
  ones_few = ones_fit p s ws h.good h.long h.going h.sound

  -- n and S rise
  pub risen : (field 4 draws_field bytes < horizon_limit) × (field 4 ones_field bytes ≤ field 4 draws_field bytes) × (d ≤ 1)
  unfolding state_in
  risen = (in-time, ones_few, h.bit)

  -- 769 words hold the masses of any threshold and one more: an open one is not wide
  pub few_live_in : PartHoldsOneMore p.count bytes wide
  few_live_in i l =
      let thin = rw (record_held p bytes ready_few i l) at (thin_at p s (not_over p s h.going).0 i l) in
      few_by (record_in bytes i) (record_in bytes i).mark thin (part_few bytes p.count i l held.records held.sized)

  drawn_is : outcome p bytes d ≡ record { answer = answer_of p next; state = next; words = next_words p s ws d }
  drawn_is = drawn_by_lem p s ws d 0 j.unrefused

  -- with n and S after it
  module _ {n ones : ℕ} (n_is : n ≡ field 4 draws_field bytes + 1) (ones_is : ones ≡ field 4 ones_field bytes + d) where
    n_next : suc s.n ≡ n
    unfolding state_in
    n_next = omega arith

    ones_next : s.ones + d ≡ ones
    unfolding state_in
    ones_next = sym ones_is

    abbrev new : ℕ → Threshold
    new = new_record p n ones bytes

    record_is : (i : ℕ) → i < p.count → record_at next i ≡ new i
    record_is i l = rw (record_held p bytes ready_few i l, part_held p bytes i l, n_next, ones_next) at (record_next p s ws d h.good h.long h.going h.sound i l)

    part_is : (i : ℕ) → i < p.count → part_at i (next_words p s ws d) ≡ new_part p n ones bytes i
    part_is i l = rw (record_held p bytes ready_few i l, part_held p bytes i l, n_next, ones_next) at (part_next p s ws d h.good h.long h.going h.sound i l)

    pub ready_turns : Turns p n ones bytes
    ready_turns = record {
      judged = h.good;
      in_time = omega (arith, in-time, n_next);
      form = held;
      may = λ i l. rw (record_held p bytes ready_few i l, part_held p bytes i l, n_next) at (all_may_turn p s ws h.good h.long h.going h.sound i l);
    }

    -- ---- the ways out

    size_is : new_size p n ones bytes ≡ saved_size p next
    size_is = ap (form_size p.count) (sym (masses_cong (record_at next) new p.count record_is))

    -- the new form is no longer than the longest
    pub next_small : saved_size p next ≤ form_limit
    next_small = rw size_is at (new_small ready_turns)

    pub took_12 : (lent : List ℕ) → le? (new_size p n ones bytes) (length lent) ≡ false → (r : Refusal) → number_of r ≡ 12 → Took p bytes d lent (Err r) lent
    took_12 lent small r is =
        let e : le? (saved_size p next) (length lent) ≡ false = rw size_is at small in
        record {
          refusal_is = rw (drawn_is, e) is;
          written = rw is refl;
          standing = tt;
        }

    entries_are : new_entries p n ones bytes ≡ record_entries p next ++ mass_entries p next (next_words p s ws d)
    unfolding record_entries mass_entries
    entries_are =
        ap₂ ◌++◌ (join_cong p.count _ _ (λ i l. ap record_bytes (sym (record_is i l))))
        (join_cong p.count _ _ (λ i l. rw (record_is i l, part_is i l)))

    header_is : (masses : ℕ) → masses ≡ masses_to new p.count → header p.count masses n ones ≡ saved_header p next
    unfolding next_state
    header_is masses e =
        header_cong p.count (e ∙ sym (masses_cong (record_at next) new p.count record_is)) (sym n_next) (sym ones_next)

    pub took_form : (lent : List ℕ) → le? (new_size p n ones bytes) (length lent) ≡ true → (masses : ℕ) → masses ≡ masses_to new p.count → (b₁ b₂ : List ℕ)
        → b₁ ≡ put_at header_size (new_entries p n ones bytes) lent → b₂ ≡ put_at 0 (header p.count masses n ones) b₁
        → (st : Standing) → Seen p p.count new st → Took p bytes d lent (Ok st) b₂
    unfolding saved_form form_size record_offset
    took_form lent large masses masses_are b₁ b₂ f g st seen =
        let e : le? (saved_size p next) (length lent) ≡ true = rw size_is at large in
        let form = saved_form p next (next_words p s ws d) in
        let long = le?_sound (saved_size p next) (length lent) e in
        let whole : b₂ ≡ form ++ drop (saved_size p next) lent =
        g ∙ ap (λ (x : List ℕ). put_at 0 x b₁) (header_is masses masses_are)
        ∙ ap (put_at 0 (saved_header p next)) (f ∙ ap (λ (q : List ℕ). put_at header_size q lent) entries_are)
        ∙ put_before 0 header_size (saved_header p next) (record_entries p next ++ mass_entries p next (next_words p s ws d)) lent (omega (arith, header-length p next)) (omega arith)
        ∙ put_first form lent ∙ ap (λ (k : ℕ). form ++ drop k lent) (form-length p next (next_words p s ws d)) in
        record {
          refusal_is = rw (drawn_is, e) refl;
          written = rw drawn_is whole;
          standing = rw drawn_is (record {
            low = seen.low ∙ largest_cong p.count _ _ 0 (λ i l. rw (record_is i l));
            high = seen.high ∙ smallest_cong p.count _ _ million (λ i l. rw (record_is i l));
            wide = seen.wide ∙ any_cong p.count _ _ (λ i l. rw (record_is i l));
          });
        }

-- the largest of what places have is no less than what any of them has, nor than where the search began
largest_from : (h : ℕ → ℕ) (n a most : ℕ) → let top = fold (λ m i. max m (h i)) most (range_with_len a n) in
    (most ≤ top) × ((k : ℕ) → k < n → h (a + k) ≤ top)
largest_from h zero a most = (omega arith, λ k l. absurd (omega (arith, l)))
largest_from h (suc n) a most =
    let rest = largest_from h n (a + 1) (max most (h a)) in
    (omega (arith, rest.0), go rest)
  where
    go : (let top = fold (λ m i. max m (h i)) (max most (h a)) (range_with_len (a + 1) n) in
        (max most (h a) ≤ top) × ((k : ℕ) → k < n → h (a + 1 + k) ≤ top)) → (k : ℕ) → k < suc n
        → h (a + k) ≤ fold (λ m i. max m (h i)) (max most (h a)) (range_with_len (a + 1) n)
    go rest zero l = let e : a + 0 ≡ a = omega arith in rw e (omega (arith, rest.0))
    go rest (suc k) l = let e : a + suc k ≡ a + 1 + k = omega arith in rw e (rest.1 k (omega (arith, l)))

pub largest_range : (h : ℕ → ℕ) (n i : ℕ) → i < n → h i ≤ fold (λ m k. max m (h k)) 0 (range_with_len 0 n)
largest_range h n i l = let e : 0 + i ≡ i = omega arith in rw e at ((largest_from h n 0 0).1 i l)

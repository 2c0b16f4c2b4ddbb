-- The form of a beginning, and calls on plan bytes (specs/Calls).
use mathlib.Core.Path.{◌≡◌, refl, sym, ap, ◌∙◌}
use mathlib.Core.List.{List, [], ◌∷◌, ◌++◌}
use Prim.Native.Nat.{ℕ, zero, suc, ◌+◌, ◌*◌, ◌≤◌, ◌<◌}
use native.Mathlib.Omega.{arith}
use lib.ListN.{length, length-replicate, get_or-replicate}
use Rattle.walk.specs.Units.{M, wide}
use Rattle.walk.specs.Walk.{below}
use Rattle.walk.specs.Row.{start_row}
use Rattle.walk.specs.Record.{record_of, padded, start_walked, start_part}
use Rattle.walk.proofs.Tests.{le?_complete}
use Rattle.walk.proofs.SoundnessLaws.{padded-length}
use Rattle.plan.specs.Places.{join_to}
use Rattle.plan.specs.Plan.{count_limit, plan_refusal}
use Rattle.plan.specs.declared.Plan.{Plan}
use Rattle.plan.proofs.PlaceLists.{join_cong}
use Rattle.plan.proofs.AcceptedLaws.{accepted}
use Rattle.bucket_test.specs.Words.{part_at}
use Rattle.bucket_test.specs.Turn.{open_record, start_record, no_record, record_at}
use Rattle.bucket_test.specs.Answers.{answer_of}
use Rattle.bucket_test.specs.Draw.{ten_of, start_state, start_words, begun}
use Rattle.bucket_test.specs.declared.State.{State}
use Rattle.walk.specs.declared.Walked.{Walked}
use Rattle.bucket_test.proofs.PartLaws.{words_say, join_part}
use Rattle.bucket_test.proofs.DrawingLaws.{begun_0}
use Rattle.little.specs.Little.{to_le, put_at}
use Rattle.stored_plan.specs.Reading.{decoded, read_as}
use Rattle.saved_test.specs.Form.{mass_size, record_offset, form_size, form_limit, counts_between, live_count, masses_to, mass_bytes, saved_size, saved_header, record_entries, mass_entries}
use Rattle.saved_test.proofs.WritingLaws.{form_put}
use Rattle.calls.specs.Calls.{own_words, begun_on, drawn_on, called_begin, called_draw}
use Rattle.calls.specs.Inner.{Hands}
use Rattle.calls.proofs.CallLaws.{hands_refusal, hands_answer}
use Rattle.std.specs.Prelude.{Result, Ok, Err, IsErrAnd, false}
use Rattle.refusals.specs.Refusals.{number_of}
use Rattle.refusals.specs.declared.Refusal.{Refusal}
use Rattle.refusals.proofs.RefusalLaws.{number_is}
use Rattle.plan.proofs.PlaceLaws.{first_some}
use Rattle.bucket_test.specs.declared.Answer.{Answer}
use Rattle.walk.specs.Numbers.{le?}
use Rattle.calls.proofs.PlanRead.{plan-read}

-- one mass for each threshold, the whole
start_live : live_count start_record ≡ 1
unfolding start_record start_walked record_of start_row below counts_between
start_live = refl

start-bytes : mass_bytes 1 start_part ≡ to_le mass_size M
unfolding mass_bytes join_to start_part padded start_row
start-bytes = refl

module _ (p : Plan) (good : plan_refusal p ≡ 0) where
  few : p.count ≤ count_limit
  few = ((accepted p).0 good).count_range.1

  pub begun_is : begun p (own_words p) ≡ record { answer = answer_of p start_state; state = start_state; words = start_words p }
  begun_is = begun_0 p (own_words p) good ((words_say p (own_words p)).1 (length-replicate (wide * p.count) 0))

  pub record_start : (i : ℕ) → i < p.count → record_at start_state i ≡ start_record
  unfolding start_state
  record_start i l = get_or-replicate count_limit i start_record no_record (omega (arith, few))

  part_start : (i : ℕ) → i < p.count → part_at i (start_words p) ≡ start_part
  unfolding start_words start_part start_row wide
  part_start i l = join_part (λ k. start_part) p.count (λ k h. padded-length (M ∷ []) (omega arith)) i l

  entries_start : mass_entries p start_state (start_words p) ≡ join_to p.count (λ i. to_le mass_size M)
  unfolding mass_entries
  entries_start = join_cong p.count _ _ (λ i l. rw (record_start i l, part_start i l, start_live) start-bytes)

  masses_to_lem : (k : ℕ) → k ≤ p.count → masses_to (record_at start_state) k ≡ k
  unfolding masses_to
  masses_to_lem zero h = refl
  masses_to_lem (suc k) h = rw (record_start k (omega arith), start_live) (omega (arith, masses_to_lem k (omega arith)))

  pub start_size : record_offset p.count + mass_size * p.count ≡ saved_size p start_state
  unfolding form_size
  start_size = omega (arith, masses_to_lem p.count (omega arith))

  pub start_small : saved_size p start_state ≤ form_limit
  unfolding record_offset
  start_small = omega (arith, start_size, few)

  -- the state that code makes
  pub state_start : (s : State) (w : Walked) → s ≡ ten_of (open_record w) → w ≡ start_walked → s ≡ start_state
  unfolding start_state start_record
  state_start s w e f = e ∙ rw f

  pub live_few : (i : ℕ) → i < p.count → live_count (record_at start_state i) ≤ wide
  unfolding wide
  live_few i l = rw (record_start i l, start_live) (omega arith)

  pub begins_12 : (lent : List ℕ) → le? (saved_size p start_state) (length lent) ≡ false → (r : Refusal) → number_of r ≡ 12
      → (x : Result Answer Refusal) → IsErrAnd x (λ f. f ≡ r) → Hands (begun_on 0 p lent) x lent
  begins_12 lent h r is x e = rw (begun_is, h) (hands_refusal p (record { answer = answer_of p start_state; state = start_state; words = start_words p }) lent 12 r is x e)

  pub begins_form : (lent : List ℕ) → saved_size p start_state ≤ length lent → (a : Answer) → a ≡ answer_of p start_state → (b₁ b₂ : List ℕ)
      → b₁ ≡ put_at (record_offset p.count) (join_to p.count (λ i. to_le mass_size M)) lent
      → b₂ ≡ put_at 0 (saved_header p start_state ++ record_entries p start_state) b₁ → Hands (begun_on 0 p lent) (Ok a) b₂
  unfolding mass_entries record_offset form_size
  begins_form lent h a is b₁ b₂ f g =
      let f' = f ∙ ap (λ (x : List ℕ). put_at (record_offset p.count) x lent) (sym entries_start) in
      let most = ((accepted p).0 good).buckets_range.1 in
      rw (begun_is, le?_complete (saved_size p start_state) (length lent) h)
      (hands_answer p (record { answer = answer_of p start_state; state = start_state; words = start_words p }) lent b₂ most start_state refl a is (form_put p start_state (start_words p) lent b₁ b₂ f' g (omega arith)))

-- ---- calls on plan bytes: refused by their reading, or under the plan that they hold

module _ (planBytes : List ℕ) where
  pub begin_refused : (r : Refusal) → read_as (Err r) ≡ decoded planBytes → (lent : List ℕ) → (x : Result Answer Refusal) → IsErrAnd x (λ f. f ≡ r)
      → Hands (called_begin planBytes lent) x lent
  unfolding called_begin
  begin_refused r is lent x h =
      rw (← is) (hands_refusal _ _ lent _ r (sym (first_some (number_of r) _ (λ z. omega (arith, number_is r, z)))) x h)

  pub draw_refused : (r : Refusal) → read_as (Err r) ≡ decoded planBytes → (saved : List ℕ) (d : ℕ) (lent : List ℕ) → (x : Result Answer Refusal)
      → IsErrAnd x (λ f. f ≡ r) → Hands (called_draw planBytes saved d lent) x lent
  unfolding called_draw
  draw_refused r is saved d lent x h =
      rw (← is) (hands_refusal _ _ lent _ r (sym (first_some (number_of r) _ (λ z. omega (arith, number_is r, z)))) x h)

  module _ (p : Plan) (is : read_as (Ok p) ≡ decoded planBytes) where
    pub plan_good : plan_refusal p ≡ 0
    plan_good = (accepted p).1 (rw (← is) at (plan-read planBytes (rw (← is))))

    pub begin_goes_on : (lent : List ℕ) → called_begin planBytes lent ≡ begun_on 0 p lent
    unfolding called_begin
    begin_goes_on lent = rw (← is)

    pub draw_goes_on : (saved : List ℕ) (d : ℕ) (lent : List ℕ) → called_draw planBytes saved d lent ≡ drawn_on 0 p saved d lent
    unfolding called_draw
    draw_goes_on saved d lent = rw (← is)

-- What a draw that nothing refuses may do, and each way out of a beginning and a draw, in plain variables.
use mathlib.Core.Path.{◌≡◌, refl, sym, ap, ◌∙◌}
use mathlib.Core.Bool.{Bool, true, false, not, ◌&&◌}
use mathlib.Core.List.{List, [], ◌∷◌}
use Prim.Native.Nat.{ℕ, zero, suc, ◌+◌, ◌*◌, ◌-◌, ◌≤◌, ◌<◌}
use native.Mathlib.Nat.{le_of_lt}
use native.Mathlib.Omega.{arith}
use borrow.Author.Tests.{not-true}
use lib.ListN.{length}
use Rattle.walk.specs.Numbers.{le?}
use Rattle.walk.specs.Units.{million, wide, horizon_limit}
use Rattle.walk.specs.Spending.{IsSpending}
use Rattle.walk.specs.Strings.{mark_open}
use Rattle.walk.specs.Record.{first_above, is_wide}
use Rattle.walk.specs.Soundness.{rounded_fits}
use Rattle.walk.specs.declared.Mark.{Mark}
use Rattle.walk.specs.declared.Mark.TheVariants.{Open, Above, AtMost}
use Rattle.walk.proofs.Tests.{and_true, le?_sound}
use Rattle.walk.proofs.SoundnessLaws.{IsSound, few_live, steppable}
use Rattle.plan.specs.Places.{over_to, join_to}
use Rattle.plan.specs.Plan.{threshold_at, spending_of, plan_refusal, Accepted}
use Rattle.bucket_choice.specs.Choice.{chosen_bucket}
use Rattle.bucket_test.specs.Words.{part_at, words_fit}
use Rattle.bucket_test.specs.Turn.{record_at, wide_open, MayTurn, numbers_sound, record_sound, record_turn, part_turn, record_sound_at, MayTurnAt}
use Rattle.bucket_test.specs.Answers.{low_of, high_of, answer_of, is_ending}
use Rattle.bucket_test.specs.Draw.{Outcome, drawn_of, start_state, start_words, no_state, begin_refusal, begun_over, begun, state_sound, draw_refusal_over, draw_refusal, next_state, next_words, drawn_by, drawn_over, drawn, report_by, report_over, report}
use Rattle.bucket_test.specs.declared.Threshold.{Threshold}
use Rattle.bucket_test.specs.declared.State.{State}
use Rattle.plan.specs.declared.Plan.{Plan}
use Rattle.bucket_test.specs.declared.Drawn.{Drawn}
use Rattle.bucket_test.specs.declared.Answer.TheVariants.{Refused}
use Rattle.plan.proofs.PlaceLaws.{all_reads, first_one}
use Rattle.refusals.specs.Refusals.{number_of, unless, first_refusal}
use Rattle.refusals.specs.declared.Refusal.{Refusal}
use Rattle.refusals.proofs.RefusalLaws.{number_is}
use Rattle.bucket_test.proofs.PartLaws.{words_say}
use Rattle.bucket_test.proofs.Refusing.{refused-beginning, refused_draw}
use Rattle.plan.proofs.AcceptedLaws.{accepted, threshold_ok, spends}
use Rattle.bucket_test.proofs.AnsweringLaws.{not_over, thin_at}
use Rattle.bucket_test.proofs.TurningLaws.{part_length}

-- ---- refusal 11 of one threshold

-- by its numbers alone, whatever its words
pub numbers_fail : (e n S : ℕ) (m : Mark) (t : Threshold) (part : List ℕ) → numbers_sound e n S m t ≡ false → false ≡ record_sound e n S m t part
numbers_fail e n S Open t part h = rw h
numbers_fail e n S (Above u) t part h = sym h
numbers_fail e n S (AtMost u) t part h = sym h

-- what it tells of an open one
pub open_sound : (e n S : ℕ) (t : Threshold) (part : List ℕ) → record_sound e n S Open t part ≡ true
    → (rounded_fits n t.walked ≡ true) × IsSound e n S t.walked part
open_sound e n S t part h =
    let both = and_true (numbers_sound e n S Open t) _ h in
    let front = and_true (rounded_fits n t.walked) _ both.0 in
    (front.0, (front.1, both.1))

-- ---- a threshold that refusal 11 lets through and that is not wide may have its turn

may_turn_by : (E : ℕ → ℕ) (n S a : ℕ) → a ≤ million → IsSpending E → n ≤ horizon_limit → (t : Threshold) (part : List ℕ)
    → (m : Mark) → (m ≡ Open → t.walked.upper - first_above t.walked.lower < length part)
    → record_sound (E n) n S m t part ≡ true → (mark_open m && is_wide t.walked) ≡ false → MayTurn a (E (suc n)) m t part
may_turn_by E n S a threshold spending early t part Open room sound thin =
    let h = open_sound (E n) n S t part sound in
    steppable E n S t.walked part (room refl) a threshold spending early thin h.0 h.1
may_turn_by E n S a threshold spending early t part (Above u) room sound thin = tt
may_turn_by E n S a threshold spending early t part (AtMost u) room sound thin = tt

-- the threshold at place i of an accepted plan after n draws, its record t and its masses in any part: in one with a word more than an open
-- one's live counts it may have its turn, and so in one of 769
module _ (p : Plan) (ok : Accepted p) (i : ℕ) (l : i < p.count) (n S : ℕ) (early : n ≤ horizon_limit) (t : Threshold) (part : List ℕ)
    (sound : record_sound (spending_of p i n) n S t.mark t part ≡ true) (thin : wide_open t ≡ false) where
  pub may_turn_in : (t.mark ≡ Open → t.walked.upper - first_above t.walked.lower < length part)
      → MayTurn (threshold_at p i) (spending_of p i (suc n)) t.mark t part
  may_turn_in room =
      may_turn_by (spending_of p i) n S (threshold_at p i) (threshold_ok p ok i l) (spends p ok i l) early t part t.mark room sound thin

  may_turn_wide : length part ≡ wide → MayTurn (threshold_at p i) (spending_of p i (suc n)) t.mark t part
  may_turn_wide size = may_turn_in (λ is.
      let h = open_sound (spending_of p i n) n S t part (rw is at sound) in
      omega (arith, few_live (spending_of p i n) n S t.walked h.1.0 (rw is at thin)))

-- ---- a draw that nothing refuses

module _ (p : Plan) (s : State) (ws : List ℕ) (good : plan_refusal p ≡ 0) (fits : length ws ≡ wide * p.count)
    (open_yet : is_ending (answer_of p s) ≡ false) (sound : state_sound p s ws ≡ true) where
  ok : Accepted p
  ok = (accepted p).0 good

  -- the tests of refusal 11
  in-time : s.n ≤ p.horizon
  unfolding state_sound
  in-time = le?_sound s.n p.horizon (and_true (le? s.n p.horizon) _ sound).0

  pub ones_fit : s.ones ≤ s.n
  unfolding state_sound
  ones_fit = le?_sound s.ones s.n (and_true (le? s.ones s.n) _ (and_true (le? s.n p.horizon) _ sound).1).0

  pub sound_at : (i : ℕ) → i < p.count → record_sound_at p ws s.n s.ones i (record_at s i) ≡ true
  unfolding state_sound
  sound_at = (all_reads _ p.count).0 (and_true (le? s.ones s.n) _ (and_true (le? s.n p.horizon) _ sound).1).1

  pub early : s.n < horizon_limit
  early = omega (arith, in-time, (not_over p s open_yet).1, ok.horizon_range)

  pub all_may_turn : (i : ℕ) → i < p.count → MayTurnAt p ws (suc s.n) i (record_at s i)
  all_may_turn i l =
      may_turn_wide p ok i l s.n s.ones (le_of_lt early) (record_at s i) (part_at i ws) (sound_at i l) (thin_at p s (not_over p s open_yet).0 i l)
      (part_length ws p.count i fits l)

-- the state and the words after the turns of all, of which n is the draw
module _ (p : Plan) (s : State) (ws : List ℕ) (d n : ℕ) (n_is : n ≡ suc s.n) where
  pub next_state_lem : (rs : List Threshold) → rs ≡ over_to p.count (record_turn p ws n (s.ones + d)) s.records
      → record { n = n; ones = s.ones + d; records = rs } ≡ next_state p s ws d
  unfolding next_state
  next_state_lem rs e = rw (e, n_is)

  pub next_words_lem : (out : List ℕ) → out ≡ join_to p.count (λ i. part_turn p ws n (s.ones + d) i (record_at s i))
      → out ≡ next_words p s ws d
  unfolding next_words
  next_words_lem out e = rw (e, n_is)

-- ---- what code that was handed a plan and words has shown

-- an accepted plan keeps the places inside the arrays
pub places : (p : Plan) → plan_refusal p ≡ 0 → (p.count ≤ 10) × (p.buckets ≤ 16)
places p good = let ok = (accepted p).0 good in (ok.count_range.1, ok.buckets_range.1)

-- an answer and words that are those of an outcome
pub hands : {o o' : Outcome} → o ≡ o' → {r : Drawn} {ws : List ℕ} → r ≡ drawn_of o' → ws ≡ o'.words → (r ≡ drawn_of o) × (ws ≡ o.words)
hands e p q = (p ∙ ap drawn_of (sym e), q ∙ ap (λ (o : Outcome). o.words) (sym e))

-- ---- what is judged before a beginning and a draw

-- a refusal that is the first of two is the first of more; two rules that are kept leave those behind them
stops : (a b : ℕ) (rs : List ℕ) (r : Refusal) → number_of r ≡ first_refusal (a ∷ b ∷ []) → number_of r ≡ first_refusal (a ∷ b ∷ rs)
stops zero zero rs r e = let k = number_is r in absurd (omega (arith, e, k))
stops zero (suc b) rs r e = e
stops (suc a) b rs r e = e

passes : (a b : ℕ) (rs : List ℕ) → 0 ≡ first_refusal (a ∷ b ∷ []) → first_refusal (a ∷ b ∷ rs) ≡ first_refusal rs
passes zero zero rs e = refl
passes zero (suc b) rs e = absurd (omega (arith, e))
passes (suc a) b rs e = absurd (omega (arith, e))

-- a plan's refusal comes first
plan_first : (a : ℕ) (rs : List ℕ) (r : Refusal) → number_of r ≡ a → number_of r ≡ first_refusal (a ∷ rs)
plan_first zero rs r e = let k = number_is r in absurd (omega (arith, e, k))
plan_first (suc a) rs r e = e

-- a rule and those behind it refuse nothing
kept_first : (b : Bool) (r : ℕ) (rs : List ℕ) → 0 ≡ first_refusal (unless b (suc r) ∷ rs) → (b ≡ true) × (0 ≡ first_refusal rs)
kept_first true r rs e = (refl, e)
kept_first false r rs e = absurd (omega (arith, e))

after_plan : (a : ℕ) (rs : List ℕ) → 0 ≡ first_refusal (a ∷ rs) → (a ≡ 0) × (0 ≡ first_refusal rs)
after_plan zero rs e = (refl, e)
after_plan (suc a) rs e = absurd (omega (arith, e))

module _ (p : Plan) (ws : List ℕ) where
  pub begin_plan : (r : Refusal) → number_of r ≡ plan_refusal p → number_of r ≡ begin_refusal p ws
  unfolding begin_refusal
  begin_plan r e = plan_first _ _ r e

  pub begin_words : plan_refusal p ≡ 0 → begin_refusal p ws ≡ unless (words_fit p ws) 8
  unfolding begin_refusal
  begin_words good = rw good (first_one (unless (words_fit p ws) 8))

  -- nothing refuses a beginning
  module _ (nothing : 0 ≡ begin_refusal p ws) where
    pub good_plan : plan_refusal p ≡ 0
    unfolding begin_refusal
    good_plan = (after_plan _ _ nothing).0

    pub long_words : length ws ≡ wide * p.count
    unfolding begin_refusal
    long_words = (words_say p ws).0 (kept_first _ 7 [] (after_plan (plan_refusal p) (unless (words_fit p ws) 8 ∷ []) nothing).1).0

    pub begun_now : begun p ws ≡ record { answer = answer_of p start_state; state = start_state; words = start_words p }
    unfolding begun_over
    begun_now = rw (← nothing)

  -- .. as it is of an accepted plan and so many words
  pub begun_0 : plan_refusal p ≡ 0 → words_fit p ws ≡ true
      → begun p ws ≡ record { answer = answer_of p start_state; state = start_state; words = start_words p }
  begun_0 good fits = begun_now (sym (rw (begin_words good, fits)))

  pub refuses_begin : (r : Refusal) → number_of r ≡ begin_refusal p ws → begun p ws ≡ record { answer = Refused (number_of r); state = no_state; words = ws }
  refuses_begin r e = let k = number_is r in rw e (refused-beginning p ws (λ z. omega (arith, e, z, k)))

module _ (p : Plan) (s : State) (ws : List ℕ) (d : ℕ) where
  pub draw_begins : (r : Refusal) → number_of r ≡ begin_refusal p ws → number_of r ≡ draw_refusal p s ws d
  unfolding begin_refusal draw_refusal_over
  draw_begins r e = stops _ _ _ r e

  pub draw_goes_on : 0 ≡ begin_refusal p ws
      → draw_refusal p s ws d
      ≡ first_refusal (unless (le? d 1) 9 ∷ unless (not (is_ending (answer_of p s))) 10 ∷ unless (state_sound p s ws) 11 ∷ [])
  unfolding begin_refusal draw_refusal_over
  draw_goes_on e = passes _ _ _ e

  pub drawn_by_lem : (r : ℕ) → draw_refusal p s ws d ≡ r → drawn p s ws d ≡ drawn_by chosen_bucket r p s ws d
  unfolding drawn_over
  drawn_by_lem r e = rw e

  pub refuses_draw : (r : Refusal) → number_of r ≡ draw_refusal p s ws d → drawn p s ws d ≡ record { answer = Refused (number_of r); state = s; words = ws }
  refuses_draw r e = let k = number_is r in rw e (refused_draw p s ws d (λ z. omega (arith, e, z, k)))

  -- nothing refuses a draw
  pub record Drawable : Type 0 where
    pub good : plan_refusal p ≡ 0
    pub long : length ws ≡ wide * p.count
    pub bit : d ≤ 1
    pub going : is_ending (answer_of p s) ≡ false
    pub sound : state_sound p s ws ≡ true

  pub drawable : draw_refusal p s ws d ≡ 0 → Drawable
  unfolding draw_refusal_over
  drawable e =
      let on_plan = after_plan _ _ (sym e) in
      let on_words = kept_first _ 7 _ on_plan.1 in
      let on_draw = kept_first _ 8 _ on_words.1 in
      let on_end = kept_first _ 9 _ on_draw.1 in
      record {
        good = on_plan.0;
        long = (words_say p ws).0 on_words.0;
        bit = le?_sound d 1 on_draw.0;
        going = not-true _ on_end.0;
        sound = (kept_first _ 10 _ on_end.1).0;
      }

-- ---- the answer to a state

module _ (p : Plan) (s : State) where
  pub refuses_report : (r : Refusal) → number_of r ≡ plan_refusal p → record { answer = Refused (number_of r); low = 0; high = 0 } ≡ report p s
  unfolding report_over
  refuses_report r e = go (plan_refusal p) e
    where
      go : (n : ℕ) → number_of r ≡ n → record { answer = Refused (number_of r); low = 0; high = 0 } ≡ report_by chosen_bucket n p s
      go zero e = let k = number_is r in absurd (omega (arith, e, k))
      go (suc n) e = rw e

  pub report_0 : plan_refusal p ≡ 0 → report p s ≡ record { answer = answer_of p s; low = low_of p s; high = high_of p s }
  unfolding report_over
  report_0 e = rw e

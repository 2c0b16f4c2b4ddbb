-- What each test of a run says in words, and the ways out of a draw, of any run.
use mathlib.Core.Path.{◌≡◌, refl}
use mathlib.Core.Logic.{inl, inr}
use mathlib.Core.Bool.{Bool, true, false, not, ◌&&◌, ◌||◌}
use mathlib.Core.List.{[], ◌∷◌}
use Rattle.refusals.specs.Refusals.{unless, first_refusal}
use Prim.Native.Nat.{ℕ, zero, suc, ◌+◌, ◌-◌, ◌≤◌, ◌<◌}
use native.Mathlib.Omega.{arith}
use Rattle.std.proofs.lemmas.Grind.{common_steps}
use Rattle.counting.specs.Tests.{le?, lt?, eq?}
use Rattle.counting.specs.Run.{size_limit, sizes_fit, is_over, is_sound, answer_of, run_of, refused, next_run, drawn}
use Rattle.counting.specs.OneCall.{InRange, Bit, Over, Spoiled, Answers}
use Rattle.counting.specs.declared.Run.{Run}
use Rattle.counting.proofs.TestLaws.{Le?, gt, le_view, le_holds, le_fails, lt_holds, le_says, eq_holds, eq_fails, three_say}

-- a test that says A fails where A does not hold
fails : {A : Type 0} (b : Bool) → (b ≡ true → A) → ¬ A → b ≡ false
fails true f never = absurd (never (f refl))
fails false f never = refl

-- ---- 13

pub in-range : (h n : ℕ) → sizes_fit h n ≡ true → InRange h n
unfolding sizes_fit
in-range h n e =
    let t = three_say (le? 1 h) (lt? h n) (le? n size_limit) e in
    record { from_1 = le_says _ _ t.0; below = le_says _ _ t.1; at_most = le_says _ _ t.2 }

pub fits : (h n : ℕ) → InRange h n → sizes_fit h n ≡ true
unfolding sizes_fit
fits h n ok = rw (le_holds 1 h ok.from_1, lt_holds h n ok.below, le_holds n size_limit ok.at_most)

pub unfit : (h n : ℕ) → ¬ (InRange h n) → sizes_fit h n ≡ false
unfit h n = fails (sizes_fit h n) (in-range h n)

-- ---- 9

pub bit : (d : ℕ) → d ≤ 1 → Bit d
bit zero h = inl refl
bit (suc zero) h = inr refl
bit (suc (suc d)) h = absurd (omega arith)

pub small : (d : ℕ) → Bit d → d ≤ 1
small d (inl e) = omega arith
small d (inr e) = omega arith

pub large : (d : ℕ) → ¬ (Bit d) → 1 < d
large zero never = absurd (never (inl refl))
large (suc zero) never = absurd (never (inr refl))
large (suc (suc d)) never = omega arith

-- ---- 10

pub over-holds : (r : Run) → Over r → is_over r ≡ true
unfolding is_over
over-holds r (inl e) = rw (eq_holds r.ones r.stop e)
over-holds r (inr e) = go (eq? r.ones r.stop)
  where
    go : (b : Bool) → (b || eq? r.taken (r.size - 1)) ≡ true
    go true = refl
    go false = eq_holds r.taken (r.size - 1) e

pub over_fails : (r : Run) → ¬ (Over r) → is_over r ≡ false
unfolding is_over
over_fails r never = rw (eq_fails r.ones r.stop (λ e. never (inl e)), eq_fails r.taken (r.size - 1) (λ e. never (inr e)))

-- ---- 11

pub sound_says : (r : Run) → is_sound r ≡ true → (r.taken < r.size) × (r.ones ≤ r.stop) × (r.ones ≤ r.taken)
unfolding is_sound
sound_says r e =
    let t = three_say (lt? r.taken r.size) (le? r.ones r.stop) (le? r.ones r.taken) e in
    (le_says _ _ t.0, le_says _ _ t.1, le_says _ _ t.2)

pub sound_fails : (r : Run) → Spoiled r → is_sound r ≡ false
sound_fails r spoiled = fails (is_sound r) (sound_says r) (go spoiled)
  where
    go : Spoiled r → ¬ ((r.taken < r.size) × (r.ones ≤ r.stop) × (r.ones ≤ r.taken))
    go (inl p) s = omega (arith, s.0)
    go (inr (inl p)) s = omega (arith, s.1)
    go (inr (inr p)) s = omega (arith, s.2)

pub sound_holds : (r : Run) → ¬ (Spoiled r) → is_sound r ≡ true
unfolding is_sound
sound_holds r never =
    go (lt? r.taken r.size) (le_view (suc r.taken) r.size) (le? r.ones r.stop) (le_view r.ones r.stop)
    (le? r.ones r.taken) (le_view r.ones r.taken)
  where
    go : (a : Bool) → Le? (suc r.taken) r.size a → (b : Bool) → Le? r.ones r.stop b → (c : Bool) → Le? r.ones r.taken c
        → (a && b && c) ≡ true
    go false (gt p) b q c s = absurd (never (inl (omega arith)))
    go true p false (gt q) c s = absurd (never (inr (inl q)))
    go true p true q false (gt s) = absurd (never (inr (inr s)))
    go true p true q true s = refl

-- ---- the answer

pub answer_says : (h n l g : ℕ) → Answers h n l g (answer_of (run_of h n l g))
unfolding answer_of
answer_says h n l g = record {
  at_stop = λ e. rw (eq_holds g h e);
  at_size = λ never e. rw (eq_fails g h never, eq_holds l (n - 1) e);
  else_open = λ never none. rw (eq_fails g h never, eq_fails l (n - 1) none);
}

-- ---- the ways out of a draw

module _ (r : Run) (d : ℕ) where
  pub drawn_13 : sizes_fit r.stop r.size ≡ false → drawn r d ≡ refused 13 r
  unfolding drawn
  drawn_13 e = rw e

  module _ (ok : sizes_fit r.stop r.size ≡ true) where
    pub drawn_9 : 1 < d → drawn r d ≡ refused 9 r
    unfolding drawn
    drawn_9 h = rw (ok, le_fails d 1 h)

    module _ (h : d ≤ 1) where
      pub drawn_10 : is_over r ≡ true → drawn r d ≡ refused 10 r
      unfolding drawn
      drawn_10 e = rw (ok, le_holds d 1 h, e)

      module _ (going : is_over r ≡ false) where
        pub drawn_11 : is_sound r ≡ false → drawn r d ≡ refused 11 r
        unfolding drawn
        drawn_11 e = rw (ok, le_holds d 1 h, going, e)

        pub drawn_0 : is_sound r ≡ true → drawn r d ≡ record { answer = answer_of (next_run r d); run = next_run r d }
        unfolding drawn
        drawn_0 e = rw (ok, le_holds d 1 h, going, e)

-- ---- what judges a draw, in order

abbrev pub judged : Bool → Bool → Bool → Bool → ℕ
judged fit small over sound = first_refusal (unless fit 13 ∷ unless small 9 ∷ unless (not over) 10 ∷ unless sound 11 ∷ [])

module _ (r : Run) (d : ℕ) where
  abbrev judging : ℕ
  judging = judged (sizes_fit r.stop r.size) (le? d 1) (is_over r) (is_sound r)

  pub drawn_refused : (k : ℕ) → 1 ≤ k → k ≡ judging → drawn r d ≡ refused k r
  unfolding drawn
  drawn_refused k some e = grind (arith, common_steps)

  -- a draw that nothing refuses is taken, and one draw more and its ones fit
  pub record Taken : Type 0 where
    pub least : 1 ≤ r.size
    pub draws : r.taken < size_limit
    pub ones : r.ones + d ≤ size_limit
    pub is : drawn r d ≡ record { answer = answer_of (next_run r d); run = next_run r d }

  none : (fit small over sound : Bool) → 0 ≡ judged fit small over sound → (fit ≡ true) × (small ≡ true) × (over ≡ false) × (sound ≡ true)
  none fit small over sound e = grind (arith, common_steps)

  pub taken : 0 ≡ judging → Taken
  taken e =
      let t = none (sizes_fit r.stop r.size) (le? d 1) (is_over r) (is_sound r) e in
      let range = in-range _ _ t.0 in
      let small = le_says d 1 t.1 in
      let sound = sound_says r t.3 in
      record {
        least = omega (arith, range.below);
        draws = omega (arith, sound.0, range.at_most);
        ones = omega (arith, small, sound.1, range.below, range.at_most);
        is = drawn_0 r d t.0 small t.2 t.3;
      }

-- Laws of the tests by place and of the refusals in order (specs/Places): what each says, from what its parts say.
use mathlib.Core.Path.{◌≡◌, refl, sym, ◌∙◌}
use mathlib.Core.Bool.{Bool, true, false, not, ◌&&◌, ◌||◌}
use mathlib.Core.List.{List, [], ◌∷◌}
use mathlib.Core.Logic.{◌↔◌, ◌⊎◌, inl, inr, ⊎_elim}
use Prim.Native.Nat.{ℕ, zero, suc, ◌+◌, ◌≤◌, ◌<◌}
use native.Mathlib.Nat.{eq-or-lt_of_le}
use native.Mathlib.Omega.{arith}
use borrow.Author.Tests.{eqb-true, eqb-false, eq-eqb, ne_eqb, not-true, not-false}
use Rattle.walk.specs.Numbers.{le?}
use Rattle.walk.proofs.Tests.{Le?, le, gt, test, clash, and_true, le?_sound, le?_complete, le?_fails}
use Rattle.plan.specs.Places.{eq?, within, all_to, any_to, largest_to, smallest_to}
use Rattle.refusals.specs.Refusals.{unless, first_refusal}

-- ---- Booleans

pub and_fails : (x y : Bool) → y ≡ false → (x && y) ≡ false
and_fails true y e = e
and_fails false y e = refl

pub or_holds : (x y : Bool) → y ≡ true → (x || y) ≡ true
or_holds true y e = refl
or_holds false y e = e

pub or_cases : (x y : Bool) → (x || y) ≡ true → (x ≡ true) ⊎ (y ≡ true)
or_cases true y e = inl refl
or_cases false y e = inr e

-- a test b that code made by a call with result x, and branched on
module _ {x b : Bool} (e : x ≡ b) where
  pub passed : not x ≡ false → b ≡ true
  passed t = sym e ∙ not-false x t

  pub failed : not x ≡ true → b ≡ false
  failed t = sym e ∙ not-true x t

module _ {A B : Type 0} {x y : Bool} (a : (x ≡ true) ↔ A) (b : (y ≡ true) ↔ B) where
  pub both : ((x && y) ≡ true) ↔ (A × B)
  both = (λ e. let h = and_true x y e in (a.0 h.0, b.0 h.1), λ h. rw (a.1 h.0) (b.1 h.1))

  pub either : ((x || y) ≡ true) ↔ (A ⊎ B)
  either = (
    λ e. ⊎_elim (λ h. inl (a.0 h)) (λ h. inr (b.0 h)) (or_cases x y e),
    ⊎_elim (λ h. rw (a.1 h)) (λ h. or_holds x y (b.1 h)),
  )

pub neither : {A : Type 0} (x : Bool) → (x ≡ true) ↔ A → (not x ≡ true) ↔ (¬ A)
neither true a = (λ e. clash (sym e), λ f. absurd (f (a.0 refl)))
neither false a = (λ e h. clash (sym (a.1 h)), λ f. refl)

-- a test fails where what it says is not so
pub fails_by : {A : Type 0} (x : Bool) → (x ≡ true) ↔ A → ¬ A → x ≡ false
fails_by true a f = absurd (f (a.0 refl))
fails_by false a f = refl

-- ---- m ≤ n, m = n, from lo to hi

pub le_or_lt : (m n : ℕ) → (m ≤ n) ⊎ (n < m)
le_or_lt m n = go (le? m n) (test m n)
  where
    go : (b : Bool) → Le? m n b → (m ≤ n) ⊎ (n < m)
    go true (le h) = inl h
    go false (gt h) = inr h

pub le_reads : (m n : ℕ) → (le? m n ≡ true) ↔ (m ≤ n)
le_reads m n = (le?_sound m n, le?_complete m n)

pub eq?_sound : (m n : ℕ) → eq? m n ≡ true → m ≡ n
unfolding eq?
eq?_sound = eqb-true

pub eq?_complete : (m n : ℕ) → m ≡ n → eq? m n ≡ true
unfolding eq?
eq?_complete = eq-eqb

pub eq?_fails : (m n : ℕ) → ¬ (m ≡ n) → eq? m n ≡ false
unfolding eq?
eq?_fails = ne_eqb

pub eq?_false : (m n : ℕ) → eq? m n ≡ false → ¬ (m ≡ n)
unfolding eq?
eq?_false = eqb-false

pub eq_reads : (m n : ℕ) → (eq? m n ≡ true) ↔ (m ≡ n)
eq_reads m n = (eq?_sound m n, eq?_complete m n)

pub eq?_swap : (m n : ℕ) → eq? m n ≡ eq? n m
eq?_swap m n = go (eq? m n) refl
  where
    go : (b : Bool) → eq? m n ≡ b → b ≡ eq? n m
    go true e = sym (eq?_complete n m (sym (eq?_sound m n e)))
    go false e = sym (eq?_fails n m (λ h. eq?_false m n e (sym h)))

pub within_reads : (lo hi x : ℕ) → (within lo hi x ≡ true) ↔ ((lo ≤ x) × (x ≤ hi))
within_reads lo hi x = both (le_reads lo x) (le_reads x hi)

pub within_low : (lo hi x : ℕ) → x < lo → within lo hi x ≡ false
within_low lo hi x h = rw (le?_fails lo x h)

pub within_high : (lo hi x : ℕ) → hi < x → within lo hi x ≡ false
within_high lo hi x h = and_fails (le? lo x) (le? x hi) (le?_fails x hi h)

-- ---- every place below n, some place below n

module _ (pass : ℕ → Bool) where
  -- what the places say
  module _ {P : ℕ → Type 0} (reads : (i : ℕ) → (pass i ≡ true) ↔ P i) where
    pub all_say : (n : ℕ) → (all_to n pass ≡ true) ↔ ((i : ℕ) → i < n → P i)
    unfolding all_to
    all_say n = (at n, all n)
      where
        at : (n : ℕ) → all_to n pass ≡ true → (i : ℕ) → i < n → P i
        at zero e i h = absurd (omega arith)
        at (suc n) e i h =
            let b = and_true (all_to n pass) (pass n) e in
            ⊎_elim (λ q. let z : i ≡ n = omega arith in rw z ((reads n).0 b.1)) (λ l. at n b.0 i (omega arith)) (eq-or-lt_of_le h)

        all : (n : ℕ) → ((i : ℕ) → i < n → P i) → all_to n pass ≡ true
        all zero f = refl
        all (suc n) f = rw (all n (λ i h. f i (omega arith)), (reads n).1 (f n (omega arith)))

    pub any_say : (n : ℕ) → (any_to n pass ≡ true) ↔ ((i : ℕ) × (i < n) × P i)
    unfolding any_to
    any_say n = (at n, λ s. some n s.0 s.1 s.2)
      where
        at : (n : ℕ) → any_to n pass ≡ true → (i : ℕ) × (i < n) × P i
        at zero e = clash (sym e)
        at (suc n) e =
            ⊎_elim (λ l. let s = at n l in (s.0, omega (arith, s.1), s.2)) (λ r. (n, omega arith, (reads n).0 r))
            (or_cases (any_to n pass) (pass n) e)

        some : (n i : ℕ) → i < n → P i → any_to n pass ≡ true
        some zero i h e = absurd (omega arith)
        some (suc n) i h e =
            ⊎_elim (λ q. let z : n ≡ i = omega arith in or_holds (any_to n pass) (pass n) ((reads n).1 (rw z e)))
            (λ l. rw (some n i (omega arith) e)) (eq-or-lt_of_le h)

  pub all_reads : (n : ℕ) → (all_to n pass ≡ true) ↔ ((i : ℕ) → i < n → pass i ≡ true)
  all_reads = all_say (λ i. (λ e. e, λ e. e))

  pub any_reads : (n : ℕ) → (any_to n pass ≡ true) ↔ ((i : ℕ) × (i < n) × (pass i ≡ true))
  any_reads = any_say (λ i. (λ e. e, λ e. e))

  pub all_fails : (n i : ℕ) → i < n → pass i ≡ false → all_to n pass ≡ false
  all_fails n i h e = go (all_to n pass) (λ a. (all_reads n).0 a i h)
    where
      go : (b : Bool) → (b ≡ true → pass i ≡ true) → b ≡ false
      go true f = clash (sym (f refl) ∙ e)
      go false f = refl

  pub any_holds : (n i : ℕ) → i < n → pass i ≡ true → any_to n pass ≡ true
  any_holds n i h e = (any_reads n).1 (i, h, e)

  -- none passes
  pub none_reads : (n : ℕ) → (any_to n pass ≡ false) ↔ ((i : ℕ) → i < n → pass i ≡ false)
  none_reads n = (
    λ e i h. off (pass i) (λ t. clash (sym (any_holds n i h t) ∙ e)),
    λ f. off (any_to n pass) (λ t. let s = (any_reads n).0 t in clash (sym s.2 ∙ f s.0 s.1)),
  )
    where
      off : (b : Bool) → (b ≡ true → b ≡ false) → b ≡ false
      off true f = f refl
      off false f = refl

-- ---- a loop that looks for a place whose test is b: false where every place has to pass, true where some place has to

abbrev pub swept : Bool → ℕ → (ℕ → Bool) → Bool
swept false n pass = all_to n pass
swept true n pass = any_to n pass

-- where it stands at place i: none was found below i
pub record Sought (b : Bool) (pass : ℕ → Bool) (n i : ℕ) : Type 0 where
  pub inside : i ≤ n
  pub none : (j : ℕ) → j < i → pass j ≡ not b

module _ (b : Bool) (pass : ℕ → Bool) {n : ℕ} where
  pub sought_none : Sought b pass n 0
  sought_none = record { inside = omega arith; none = λ j l. absurd (omega arith) }

  module _ {i : ℕ} (s : Sought b pass n i) where
    pub sought_next : i < n → pass i ≡ not b → Sought b pass n (i + 1)
    sought_next l e = record {
      inside = omega arith;
      none = λ j k. ⊎_elim (λ q. let z : j ≡ i = omega arith in rw z e) (λ m. s.none j (omega arith)) (eq-or-lt_of_le k);
    }

    -- it is found at i, or nowhere
    pub sought_here : i < n → pass i ≡ b → b ≡ swept b n pass
    sought_here = go b
      where
        go : (b : Bool) → i < n → pass i ≡ b → b ≡ swept b n pass
        go true l e = sym (any_holds pass n i l e)
        go false l e = sym (all_fails pass n i l e)

    pub sought_nowhere : n ≤ i → not b ≡ swept b n pass
    sought_nowhere h = let z : i ≡ n = omega (arith, s.inside) in go b (λ j l. s.none j (omega arith))
      where
        go : (b : Bool) → ((j : ℕ) → j < n → pass j ≡ not b) → not b ≡ swept b n pass
        go true f = sym ((none_reads pass n).1 f)
        go false f = sym ((all_reads pass n).1 f)

-- ---- two families that agree at each place below n

pub all_cong : (n : ℕ) (f g : ℕ → Bool) → ((i : ℕ) → i < n → f i ≡ g i) → all_to n f ≡ all_to n g
unfolding all_to
all_cong zero f g e = refl
all_cong (suc n) f g e = rw (all_cong n f g (λ i l. e i (omega arith)), e n (omega arith))

pub any_cong : (n : ℕ) (f g : ℕ → Bool) → ((i : ℕ) → i < n → f i ≡ g i) → any_to n f ≡ any_to n g
unfolding any_to
any_cong zero f g e = refl
any_cong (suc n) f g e = rw (any_cong n f g (λ i l. e i (omega arith)), e n (omega arith))

pub largest_cong : (n : ℕ) (f g : ℕ → ℕ) (least : ℕ) → ((i : ℕ) → i < n → f i ≡ g i) → largest_to n f least ≡ largest_to n g least
unfolding largest_to
largest_cong zero f g least e = refl
largest_cong (suc n) f g least e = rw (largest_cong n f g least (λ i l. e i (omega arith)), e n (omega arith))

pub smallest_cong : (n : ℕ) (f g : ℕ → ℕ) (most : ℕ) → ((i : ℕ) → i < n → f i ≡ g i) → smallest_to n f most ≡ smallest_to n g most
unfolding smallest_to
smallest_cong zero f g most e = refl
smallest_cong (suc n) f g most e = rw (smallest_cong n f g most (λ i l. e i (omega arith)), e n (omega arith))

-- ---- refusals in order

-- the first where it refuses, and the only one
pub first_some : (r : ℕ) (rs : List ℕ) → ¬ (r ≡ 0) → first_refusal (r ∷ rs) ≡ r
first_some zero rs n = absurd (n refl)
first_some (suc r) rs n = refl

pub first_one : (r : ℕ) → first_refusal (r ∷ []) ≡ r
first_one zero = refl
first_one (suc r) = refl

-- a rule is judged, then another of the same number, which is not kept
pub same_number : (b : Bool) (r : ℕ) → first_refusal (unless b (suc r) ∷ suc r ∷ []) ≡ suc r
same_number true r = refl
same_number false r = refl

-- there is none: the first is none, and there is none of the others
pub none_both : {A B : Type 0} (r : ℕ) (rs : List ℕ) → (r ≡ 0) ↔ A → (first_refusal rs ≡ 0) ↔ B → (first_refusal (r ∷ rs) ≡ 0) ↔ (A × B)
none_both zero rs x y = (λ e. (x.0 refl, y.0 e), λ h. y.1 h.1)
none_both (suc r) rs x y = (λ e. absurd (omega arith), λ h. absurd (omega (arith, x.1 h.0)))

-- the same where the first judges a rule, and of a last rule
pub none_says : {A B : Type 0} (b : Bool) (r : ℕ) (rs : List ℕ) → (b ≡ true) ↔ A → (first_refusal rs ≡ 0) ↔ B
    → (first_refusal (unless b (suc r) ∷ rs) ≡ 0) ↔ (A × B)
none_says true r rs x y = (λ e. (x.0 refl, y.0 e), λ h. y.1 h.1)
none_says false r rs x y = (λ e. absurd (omega arith), λ h. clash (sym (x.1 h.0)))

pub last_says : {A : Type 0} (b : Bool) (r : ℕ) → (b ≡ true) ↔ A → (first_refusal (unless b (suc r) ∷ []) ≡ 0) ↔ A
last_says b r x = let s = none_says b r [] x (λ e. e, λ e. e) in (λ e. (s.0 e).0, λ a. s.1 (a, refl))

-- it is the number s: by none of the rules with another number; by a rule of that number where it is not kept; past a rule of another where that
-- one is kept
pub number_absent : (b : Bool) (r s : ℕ) (rs : List ℕ) → ¬ (suc r ≡ s) → ¬ (first_refusal rs ≡ s) → ¬ (first_refusal (unless b (suc r) ∷ rs) ≡ s)
number_absent true r s rs other rest = rest
number_absent false r s rs other rest = other

pub number_here : {A : Type 0} (b : Bool) (r : ℕ) (rs : List ℕ) → (b ≡ true) ↔ A → ¬ (first_refusal rs ≡ suc r)
    → (first_refusal (unless b (suc r) ∷ rs) ≡ suc r) ↔ (¬ A)
number_here true r rs x rest = (λ e. absurd (rest e), λ f. absurd (f (x.0 refl)))
number_here false r rs x rest = (λ e a. clash (sym (x.1 a)), λ f. refl)

pub number_later : {B : Type 0} (b : Bool) (r s : ℕ) (rs : List ℕ) → ¬ (suc r ≡ s) → (first_refusal rs ≡ s) ↔ B
    → (first_refusal (unless b (suc r) ∷ rs) ≡ s) ↔ ((b ≡ true) × B)
number_later true r s rs other y = (λ e. (refl, y.0 e), λ h. y.1 h.1)
number_later false r s rs other y = (λ e. absurd (other e), λ h. clash (sym h.0))

-- .. and past a refusal of another number where that is none
pub number-after : {B : Type 0} (r s : ℕ) (rs : List ℕ) → ¬ (r ≡ s) → (first_refusal rs ≡ s) ↔ B → (first_refusal (r ∷ rs) ≡ s) ↔ ((r ≡ 0) × B)
number-after zero s rs other y = (λ e. (refl, y.0 e), λ h. y.1 h.1)
number-after (suc r) s rs other y = (λ e. absurd (other e), λ h. absurd (omega (arith, h.0)))

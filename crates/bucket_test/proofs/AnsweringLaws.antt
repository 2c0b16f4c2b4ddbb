-- What the functions of src/answering.rt leave to show, and the answer rule, which only Trials, where it computes, unfolds besides.
use mathlib.Core.Path.{◌≡◌, refl, sym, ap, ◌∙◌}
use mathlib.Core.Bool.{Bool, true, false, ◌||◌}
use Prim.Native.Nat.{ℕ, zero, suc, ◌+◌, ◌≤◌, ◌<◌, max, min}
use native.Mathlib.Numerals.{add-one}
use native.Mathlib.Omega.{arith}
use mathlib.Core.List.{List}
use lib.ListN.{length, take, get_or}
use Rattle.std.specs.List.{list_any}
use Rattle.std.proofs.lemmas.List.Folds.{list_any_more}
use Rattle.std.specs.Prelude.{Some, None}
use Rattle.walk.specs.Numbers.{lt?}
use Rattle.walk.proofs.Tests.{clash, le?_complete, le?_fails}
use Rattle.plan.specs.Places.{eq?, any_to, largest_to, smallest_to}
use Rattle.plan.specs.Plan.{left_at, right_at}
use Rattle.bucket_choice.specs.Choice.{Choice, chosen_bucket, named}
use Rattle.bucket_choice.proofs.ChoiceLaws.{chosen_cong, named_some, named_none}
use Rattle.bucket_test.specs.Turn.{record_at, wide_open}
use Rattle.bucket_test.specs.Answers.{low_of, high_of, any_wide, first_that_fits, answer_by, answer_over, answer_of, is_ending, refusal_of}
use Rattle.bucket_test.specs.declared.State.{State}
use Rattle.plan.specs.declared.Plan.{Plan}
use Rattle.bucket_test.specs.declared.Answer.{Answer}
use Rattle.bucket_test.specs.declared.Answer.TheVariants.{Open, Decided, Crossed, Wide, Spent}
use Rattle.plan.proofs.PlaceLaws.{eq?_false, none_reads}

-- one place more
pub largest_more : (i : ℕ) (f : ℕ → ℕ) (least x : ℕ) → x ≡ largest_to i f least → max x (f i) ≡ largest_to (i + 1) f least
unfolding largest_to
largest_more i f least x e = rw (add-one i, e)

pub smallest_more : (i : ℕ) (f : ℕ → ℕ) (most x : ℕ) → x ≡ smallest_to i f most → min x (f i) ≡ smallest_to (i + 1) f most
unfolding smallest_to
smallest_more i f most x e = rw (add-one i, e)

-- whether one of the first n of a list passes, by its places
pub any_of_first : {A : Type 0} (test : A → Bool) (d : A) (n : ℕ) (xs : List A) → n ≤ length xs → list_any test (take n xs) ≡ any_to n (λ i. test (get_or xs i d))
unfolding any_to
any_of_first test d zero xs l = refl
any_of_first test d (suc n) xs l =
    ap (λ k. list_any test (take k xs)) (sym (add-one n))
    ∙ list_any_more test xs n d l
    ∙ ap (λ b. b || test (get_or xs n d)) (any_of_first test d n xs (omega arith))

-- ---- the answer rule, with any choice of buckets

pub rule_with : (choice : Choice) (p : Plan) (s : State) → let j = choice p (low_of p s) (high_of p s) in
    answer_over choice p s ≡ first_that_fits (lt? (high_of p s) (low_of p s)) (lt? j p.buckets) j (any_wide p s) (eq? s.n p.horizon)
unfolding answer_over answer_by
rule_with choice p s = refl

-- ---- the rule of an interval from low to high, where the plan p has b buckets, w says that something is wide and e that the horizon is reached

module _ (p : Plan) (low high b : ℕ) (w e : Bool) where
  abbrev fits : Answer
  fits = let k = chosen_bucket p low high in first_that_fits (lt? high low) (lt? k b) k w e

  -- case by case
  pub crossed : high < low → Crossed ≡ fits
  crossed h = rw (le?_complete (suc high) low h)

  module _ (straight : low ≤ high) where
    pub decided : {j : ℕ} → Some j ≡ named b (chosen_bucket p low high) → Decided (j + 1) ≡ fits
    decided {j} e =
        let h = named_some b (chosen_bucket p low high) e in
        rw (le?_fails (suc high) low (omega arith), le?_complete (suc (chosen_bucket p low high)) b h.1, add-one j, h.0)

    module _ (none : None ≡ named b (chosen_bucket p low high)) where
      undecided : fits ≡ first_that_fits false false (chosen_bucket p low high) w e
      undecided =
          let h = named_none b (chosen_bucket p low high) none in
          rw (le?_fails (suc high) low (omega arith), le?_fails (suc (chosen_bucket p low high)) b (omega arith))

      pub wide : w ≡ true → Wide ≡ fits
      wide t = rw (undecided, t)

      module _ (thin : w ≡ false) where
        pub spent : e ≡ true → Spent ≡ fits
        spent t = rw (undecided, thin, t)

        pub open_yet : e ≡ false → Open ≡ fits
        open_yet t = rw (undecided, thin, t)

-- .. is the answer to a state with this interval
pub rule_of : (p : Plan) (s : State) {low high : ℕ} {w e : Bool}
    → low ≡ low_of p s → high ≡ high_of p s → w ≡ any_wide p s → e ≡ eq? s.n p.horizon
    → fits p low high p.buckets w e ≡ answer_of p s
rule_of p s low high wide spent = rw (low, high, wide, spent) (sym (rule_with chosen_bucket p s))

-- ---- what else is known of the rule

-- it refuses nothing; and where its answer does not end the test, nothing is wide and the horizon is not reached
first_says : (c b : Bool) (j : ℕ) (w e : Bool)
    → (refusal_of (first_that_fits c b j w e) ≡ 0) × (is_ending (first_that_fits c b j w e) ≡ false → (w ≡ false) × (e ≡ false))
first_says true b j w e = (refl, clash)
first_says false true j w e = (refl, clash)
first_says false false j true e = (refl, clash)
first_says false false j false true = (refl, clash)
first_says false false j false false = (refl, λ f. (refl, refl))

module _ (p : Plan) (s : State) where
  rule_says : (refusal_of (answer_of p s) ≡ 0) × (is_ending (answer_of p s) ≡ false → (any_wide p s ≡ false) × (eq? s.n p.horizon ≡ false))
  rule_says =
      let j = chosen_bucket p (low_of p s) (high_of p s) in
      rw (rule_with chosen_bucket p s) (first_says (lt? (high_of p s) (low_of p s)) (lt? j p.buckets) j (any_wide p s) (eq? s.n p.horizon))

  pub rule_answers : refusal_of (answer_of p s) ≡ 0
  rule_answers = rule_says.0

  pub not_over : is_ending (answer_of p s) ≡ false → (any_wide p s ≡ false) × (¬ (s.n ≡ p.horizon))
  not_over e = let h = rule_says.1 e in (h.0, eq?_false s.n p.horizon h.1)

  -- no open threshold is wide
  pub thin_at : any_wide p s ≡ false → (i : ℕ) → i < p.count → wide_open (record_at s i) ≡ false
  unfolding any_wide
  thin_at = (none_reads (λ i. wide_open (record_at s i)) p.count).0

-- two plans with the same buckets, horizon and interval, and the same that is wide
module _ (p q : Plan) (buckets : q.buckets ≡ p.buckets) (horizon : q.horizon ≡ p.horizon)
    (ends : (j : ℕ) → j < p.buckets → (left_at q j ≡ left_at p j) × (right_at q j ≡ right_at p j)) where
  pub answer_cong : (s : State) → low_of q s ≡ low_of p s → high_of q s ≡ high_of p s → any_wide q s ≡ any_wide p s → answer_of q s ≡ answer_of p s
  unfolding answer_over answer_by
  answer_cong s low high wides = rw (low, high, wides, chosen_cong p q buckets ends (low_of p s) (high_of p s), buckets, horizon)

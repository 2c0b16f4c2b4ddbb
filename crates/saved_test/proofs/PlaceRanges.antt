-- What chains over places and over lists of records compute, in the words of specs/Form and of plan's places.
use mathlib.Core.Path.{◌≡◌, refl, sym, ap, ◌∙◌}
use mathlib.Core.Bool.{Bool, true, false, ◌&&◌}
use mathlib.Core.List.{List, [], ◌∷◌}
use Prim.Native.Nat.{ℕ, zero, suc, ◌+◌, ◌-◌, ◌/◌, ◌≤◌}
use native.Mathlib.Omega.{arith}
use lib.ListN.{length, get_or}
use Rattle.std.specs.Prelude.{Option}
use Rattle.std.specs.declared.iter.Map.{Map}
use Rattle.std.specs.Fn.{Called}
use Rattle.std.specs.Iterator.Adapters.{map_source, map_callee}
use Rattle.std.specs.Iterator.Runs.{Run}
use Rattle.std.specs.List.{range_with_len, list_all, sum_by, fold}
use Rattle.std.proofs.lemmas.Iterator.{maps}
use Rattle.std.proofs.lemmas.Iterator.Adapters.{YieldsAtMost, fits_from_length}
use denote.Param.Members.{Mut}
use Rattle.std.proofs.lemmas.List.Sums.{sum_by-cons}
use Rattle.plan.specs.Places.{all_to}
use Rattle.plan.proofs.PlaceLaws.{all_cong}
use Rattle.bucket_test.specs.Turn.{no_record}
use Rattle.bucket_test.specs.declared.Threshold.{Threshold}
use Rattle.saved_test.specs.Form.{live_count, masses_to}
use Rattle.saved_test.proofs.Judged.{masses_cong}

-- ---- all of a range

and_assoc : (a b c : Bool) → ((a && b) && c) ≡ (a && (b && c))
and_assoc false b c = refl
and_assoc true b c = refl

all_first : (test : ℕ → Bool) (n : ℕ) → all_to (suc n) test ≡ (test 0 && all_to n (λ i. test (suc i)))
unfolding all_to
all_first test zero = go (test 0)
  where
    go : (b : Bool) → (true && b) ≡ (b && true)
    go true = refl
    go false = refl
all_first test (suc n) =
    ap (λ (b : Bool). b && test (suc n)) (all_first test n) ∙ and_assoc (test 0) (all_to n (λ i. test (suc i))) (test (suc n))

all_from : (test : ℕ → Bool) (a n : ℕ) → list_all test (range_with_len a n) ≡ all_to n (λ i. test (a + i))
unfolding all_to
all_from test a zero = refl
all_from test a (suc n) =
    let here : test (a + 0) ≡ test a = ap test (omega arith) in
    let next : all_to n (λ i. test (a + 1 + i)) ≡ all_to n (λ i. test (a + suc i)) = all_cong n _ _ (λ i l. ap test (omega arith)) in
    ap (λ (b : Bool). test a && b) (all_from test (a + 1) n ∙ next)
    ∙ rw (← here) (sym (all_first (λ i. test (a + i)) n))

pub all_range : (test : ℕ → Bool) (n : ℕ) → list_all test (range_with_len 0 n) ≡ all_to n test
all_range test n = all_from test 0 n ∙ all_cong n _ _ (λ i l. ap test (omega arith))

-- ---- masses

masses_first : (f : ℕ → Threshold) (n : ℕ) → masses_to f (suc n) ≡ live_count (f 0) + masses_to (λ i. f (suc i)) n
unfolding masses_to
masses_first f zero = omega arith
masses_first f (suc n) = rw (masses_first f n) (omega arith)

-- of a list of records
pub masses_list : (xs : List Threshold) → sum_by (λ t. live_count t) xs ≡ masses_to (λ i. get_or xs i no_record) (length xs)
unfolding masses_to
masses_list [] = refl
masses_list (t ∷ xs) = sum_by-cons (λ t. live_count t) t xs ∙ ap (λ (n : ℕ). live_count t + n) (masses_list xs) ∙ sym (masses_first (λ i. get_or (t ∷ xs) i no_record) (length xs))

-- of the records at a range of places
masses_from : (f : ℕ → Threshold) (a n : ℕ) → sum_by (λ i. live_count (f i)) (range_with_len a n) ≡ masses_to (λ i. f (a + i)) n
unfolding masses_to
masses_from f a zero = refl
masses_from f a (suc n) =
    let here : f (a + 0) ≡ f a = ap f (omega arith) in
    let next : masses_to (λ i. f (a + 1 + i)) n ≡ masses_to (λ i. f (a + suc i)) n = masses_cong _ _ n (λ i l. ap f (omega arith)) in
    sum_by-cons (λ i. live_count (f i)) a (range_with_len (a + 1) n)
    ∙ ap (λ (m : ℕ). live_count (f a) + m) (masses_from f (a + 1) n ∙ next)
    ∙ rw (← here) (sym (masses_first (λ i. f (a + i)) n))

pub masses_range : (f : ℕ → Threshold) (n : ℕ) → sum_by (λ i. live_count (f i)) (range_with_len 0 n) ≡ masses_to f n
masses_range f n = masses_from f 0 n ∙ masses_cong _ _ n (λ i l. ap f (omega arith))

-- the total of what a closure computes at each of at most n items, of the run that `sum` tells
pub total_few : {S A F : Type 0} {steps : S → Option A → S → Type 0} {g : Mut F (A × Unit {0}) ℕ} {s : Map S F} (p : Run (maps steps g)) → p.from ≡ s
    → (n most : ℕ) → YieldsAtMost steps (map_source s) n → (f : F) → map_callee s ≡ f
    → ((x : A) (r : ℕ) (q : F) → Called g f (x, tt) r q → (q ≡ f) × (r ≤ most / n)) → fold (λ a x. a + x) 0 p.items ≤ most
total_few {g = g} p at n most few f e k =
    let same : most + 1 - 1 ≡ most = omega arith in
    let h = fits_from_length g f n (most + 1) few e (omega arith) (λ x r q c. rw same (k x r q c)) in
    omega (arith, h p p.seen at)

-- What `ran` hands back is what the draws that were handed to the test give, one by one; and how a run is cut does not matter.
use mathlib.Core.Path.{◌≡◌, refl, sym, ap, ◌∙◌}
use mathlib.Core.Bool.{Bool, true, false}
use mathlib.Core.List.{List, [], ◌∷◌, ◌++◌}
use mathlib.Core.Logic.{◌⊎◌, inl, inr, ⊎_elim}
use Prim.Native.Nat.{ℕ, zero, suc, ◌+◌, ◌≤◌, ◌<◌}
use native.Mathlib.Numerals.{add-one}
use native.Mathlib.Omega.{arith}
use lib.ListN.{length, take, drop, get_or, drop_of_length-le}
use lib.Seq.{drop-cons}
use Rattle.walk.specs.Numbers.{le?}
use Rattle.walk.proofs.Tests.{clash}
use Rattle.bucket_test.specs.Answers.{refusal_of}
use Rattle.bucket_test.specs.Draw.{Outcome, drawn_of, outcome_of, drawn}
use Rattle.bucket_test.specs.Carried.{carried_over, carried, taken}
use Rattle.bucket_test.proofs.Ignored.{ignored}
use Rattle.bucket_test.proofs.Refusing.{refused_stays}
use Rattle.console.specs.Run.{answer_open, while_open, ran, followed_by, RunsTo, RunTheorem, RunIgnoredTheorem}
use Rattle.plan.specs.declared.Plan.{Plan}
use Rattle.bucket_test.specs.declared.Drawn.{Drawn}
use Rattle.bucket_test.specs.declared.Answer.{Answer}
use Rattle.bucket_test.specs.declared.Answer.TheVariants.{Open, Decided, Crossed, Wide, Spent, Refused}

-- a test goes on after `open` and after no other answer
open_is : (a : Answer) → answer_open a ≡ true → a ≡ Open
open_is Open e = refl
open_is (Decided b) e = clash (sym e)
open_is Crossed e = clash (sym e)
open_is Wide e = clash (sym e)
open_is Spent e = clash (sym e)
open_is (Refused r) e = clash (sym e)

not_open : (a : Answer) → answer_open a ≡ false → ¬ (a ≡ Open)
not_open a e h = clash (sym (ap answer_open h) ∙ e)

zero_or_more : (n : ℕ) → (n ≡ 0) ⊎ (0 < n)
zero_or_more zero = inl refl
zero_or_more (suc n) = inr (omega arith)

module _ (p : Plan) (words : List ℕ) where
  -- no draw is handed over: there is none, or the answer before is not open
  none_handed : (ds es : List ℕ) → (0 < length es → ¬ ((carried p words ds).answer ≡ Open)) → RunsTo p words ds es (carried p words ds)
  unfolding followed_by
  none_handed ds es shut = record {
    handed = 0;
    few = omega arith;
    open_before = λ k l. absurd (omega arith);
    stops = shut;
    outcome = refl;
    taken_each = λ k l. absurd (omega arith);
    refused_stays = λ k e. absurd (omega arith);
  }

  -- a draw that is not refused was taken; one that is changes nothing
  one_taken : (ds : List ℕ) (d : ℕ) → refusal_of (carried p words (d ∷ ds)).answer ≡ 0 → taken p words (d ∷ ds) ≡ le? 1 d ∷ taken p words ds
  unfolding taken
  one_taken ds d e = rw e

  first_stays : (ds : List ℕ) (d : ℕ) (o : Outcome) → o ≡ carried p words (d ∷ ds) → ¬ (refusal_of o.answer ≡ 0)
      → (o.state ≡ (carried p words ds).state) × (o.words ≡ (carried p words ds).words)
  unfolding carried_over
  first_stays ds d o e r =
      let s = refused_stays p (carried p words ds).state (carried p words ds).words d (rw e at r) in
      rw e s

  went_on : (ds : List ℕ) (d : ℕ) (es : List ℕ) (o : Outcome) → answer_open (carried p words ds).answer ≡ true → RunsTo p words (d ∷ ds) es o
      → RunsTo p words ds (d ∷ es) o
  unfolding followed_by
  went_on ds d es o e rest = record {
    handed = suc rest.handed;
    few = omega (arith, rest.few);
    open_before = before;
    stops = λ l. rest.stops (omega arith);
    outcome = rest.outcome;
    taken_each = takes;
    refused_stays = stays;
  }
    where
      before : (k : ℕ) → k < suc rest.handed → (carried p words (followed_by ds (take k (d ∷ es)))).answer ≡ Open
      before zero l = open_is (carried p words ds).answer e
      before (suc k) l = rest.open_before k (omega arith)

      -- where d is the only draw that was handed over, the run comes to its outcome
      only_one : rest.handed ≡ 0 → o ≡ carried p words (d ∷ ds)
      only_one none = rest.outcome ∙ ap (λ (n : ℕ). carried p words (followed_by (d ∷ ds) (take n es))) none

      -- the answer to d: the run's, where it is the last, else `open`
      first_fits : (suc 0 ≡ suc rest.handed → refusal_of o.answer ≡ 0) → refusal_of (carried p words (d ∷ ds)).answer ≡ 0
      first_fits f =
          ⊎_elim (λ e. let none : rest.handed ≡ 0 = e in ap (λ (x : Outcome). refusal_of x.answer) (sym (only_one none)) ∙ f (rw none refl))
          (λ l. ap refusal_of (rest.open_before 0 l)) (zero_or_more rest.handed)

      takes : (k : ℕ) → k < suc rest.handed → (suc k ≡ suc rest.handed → refusal_of o.answer ≡ 0)
          → taken p words (followed_by ds (take (suc k) (d ∷ es))) ≡ le? 1 (get_or (d ∷ es) k 0) ∷ taken p words (followed_by ds (take k (d ∷ es)))
      takes zero l f = one_taken ds d (first_fits f)
      takes (suc k) l f = rest.taken_each k (omega arith) (λ e. f (ap suc e))

      stays : (k : ℕ) → suc rest.handed ≡ suc k → ¬ (refusal_of o.answer ≡ 0)
          → (o.state ≡ (carried p words (followed_by ds (take k (d ∷ es)))).state) × (o.words ≡ (carried p words (followed_by ds (take k (d ∷ es)))).words)
      stays zero h r = first_stays ds d o (only_one (omega arith)) r
      stays (suc k) h r = rest.refused_stays k (omega arith) r

  run_all : (ds es : List ℕ) → RunsTo p words ds es (ran p (carried p words ds) es)
  unfolding ran carried_over
  run_all ds [] = none_handed ds [] (λ l. absurd (omega arith))
  run_all ds (d ∷ es) = go (answer_open (carried p words ds).answer) refl (run_all (d ∷ ds) es)
    where
      go : (b : Bool) → answer_open (carried p words ds).answer ≡ b → RunsTo p words (d ∷ ds) es (ran p (carried p words (d ∷ ds)) es)
          → RunsTo p words ds (d ∷ es) (while_open b (carried p words ds) (ran p (carried p words (d ∷ ds)) es))
      go true e rest = went_on ds d es (ran p (carried p words (d ∷ ds)) es) e rest
      go false e rest = none_handed ds (d ∷ es) (λ l. not_open (carried p words ds).answer e)

pub runs : RunTheorem
runs p words ds es = run_all p words ds es

pub runs_ignored : RunIgnoredTheorem
unfolding ran
runs_ignored p q c o [] = refl
runs_ignored p q c o (d ∷ ds) = rw ((ignored p q c).drawn_same o.state o.words d, runs_ignored p q c (drawn p o.state o.words d) ds)

-- ---- what the code of a run leaves to do

run_stops : (p : Plan) (o : Outcome) (ds : List ℕ) → answer_open o.answer ≡ false → ran p o ds ≡ o
unfolding ran
run_stops p o [] e = refl
run_stops p o (d ∷ ds) e = rw e

-- a run of the draws ds from place i on, which is what the whole run is
module _ (p : Plan) (d : Drawn) (ws ds : List ℕ) (i : ℕ) (whole : Outcome) (is : ran p (outcome_of d ws) (drop i ds) ≡ whole) where
  pub run_end : length ds ≤ i → outcome_of d ws ≡ whole
  unfolding ran
  run_end h = sym (ap (ran p (outcome_of d ws)) (drop_of_length-le ds {i = i} h)) ∙ is

  pub run_ended : answer_open d.answer ≡ false → outcome_of d ws ≡ whole
  run_ended e = sym (run_stops p (outcome_of d ws) (drop i ds) e) ∙ is

  pub run_on : i < length ds → answer_open d.answer ≡ true → (r : Drawn) (ws' : List ℕ) → r ≡ drawn_of (drawn p d.state ws (get_or ds i 0))
      → ws' ≡ (drawn p d.state ws (get_or ds i 0)).words → ran p (outcome_of r ws') (drop (i + 1) ds) ≡ whole
  unfolding ran
  run_on l h r ws' r-is ws-is =
      let here : whole ≡ ran p (outcome_of d ws) (get_or ds i 0 ∷ drop (suc i) ds) = sym is ∙ ap (ran p (outcome_of d ws)) (drop-cons ds i 0 l) in
      rw (here, h, r-is, ws-is, add-one i)

pub run_append : (p : Plan) (o : Outcome) (xs ys : List ℕ) → ran p (ran p o xs) ys ≡ ran p o (xs ++ ys)
unfolding ran
run_append p o [] ys = refl
run_append p o (d ∷ xs) ys = go (answer_open o.answer) refl (run_append p (drawn p o.state o.words d) xs ys)
  where
    next : Outcome
    next = drawn p o.state o.words d

    go : (b : Bool) → answer_open o.answer ≡ b → ran p (ran p next xs) ys ≡ ran p next (xs ++ ys)
        → ran p (while_open b o (ran p next xs)) ys ≡ while_open b o (ran p next (xs ++ ys))
    go true e rest = rest
    go false e rest = run_stops p o ys e

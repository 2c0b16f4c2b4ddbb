-- The answer rule names the first of the narrowest buckets that contain the interval (specs/Named).
use mathlib.Core.Path.{◌≡◌, refl, sym, ◌∙◌, ap}
use mathlib.Core.Bool.{Bool, true, false}
use mathlib.Core.Logic.{◌↔◌}
use Prim.Native.Nat.{ℕ, suc, ◌≤◌, ◌<◌}
use native.Mathlib.Omega.{arith}
use Rattle.walk.proofs.Tests.{Le?, le, gt, test, clash}
use Rattle.plan.specs.Places.{eq?}
use Rattle.bucket_choice.specs.Choice.{chosen_bucket}
use Rattle.bucket_choice.specs.Chosen.{Contains, Chosen}
use Rattle.bucket_choice.proofs.Choices.{choices}
use Rattle.bucket_test.specs.Answers.{low_of, high_of, any_wide, first_that_fits, answer_of, bucket_of}
use Rattle.bucket_test.specs.Named.{NamedTheorem}
use Rattle.bucket_test.specs.declared.State.{State}
use Rattle.plan.specs.declared.Plan.{Plan}
use Rattle.bucket_test.specs.declared.Answer.{Answer}
use Rattle.bucket_test.specs.declared.Answer.TheVariants.{Open, Decided, Crossed, Wide, Spent, Refused}
use Rattle.bucket_test.proofs.AnsweringLaws.{rule_with}

abbrev is_decided : Answer → Bool
is_decided Open = false
is_decided (Decided b) = true
is_decided Crossed = false
is_decided Wide = false
is_decided Spent = false
is_decided (Refused r) = false

-- where no bucket is named, the answer is not `decided`
none_decided : (w e : Bool) (j : ℕ) → is_decided (first_that_fits false false j w e) ≡ false
none_decided true e j = refl
none_decided false true j = refl
none_decided false false j = refl

module _ (p : Plan) (s : State) where
  abbrev low : ℕ
  low = low_of p s

  abbrev high : ℕ
  high = high_of p s

  abbrev place : ℕ
  place = chosen_bucket p low high

  chosen : place < p.buckets → Chosen p low high place
  chosen = (choices p).chosen_is low high

  some_named : (j : ℕ) → Contains p low high j → place < p.buckets
  some_named = (choices p).chosen_names.some_named low high

  abbrev Which : Answer → ℕ → Type 0
  Which a b = (a ≡ Decided b) ↔ ((low ≤ high) × ((j : ℕ) × (b ≡ suc j) × Chosen p low high j))

  by_tests : {x y : Bool} → Le? (suc high) low x → Le? (suc place) p.buckets y → (w e : Bool) (b : ℕ) → Which (first_that_fits x y place w e) b
  by_tests (le h) t w e b = (λ q. clash (sym (ap is_decided q)), λ a. absurd (omega (arith, a.0)))
  by_tests (gt h) (le k) w e b = (
    λ q. let z : suc place ≡ b = ap bucket_of q in (omega arith, (place, sym z, chosen k)),
    λ a. ap Decided (let z = (choices p).only_one low high place a.1.0 (chosen k) a.1.2 in omega (arith, z, a.1.1)),
  )
  by_tests (gt h) (gt k) w e b = (
    λ q. clash (sym (ap is_decided q) ∙ none_decided w e place),
    λ a. absurd (omega (arith, some_named a.1.0 a.1.2.contains_it)),
  )

  which : (b : ℕ) → Which (answer_of p s) b
  which b =
      rw (rule_with chosen_bucket p s)
      (by_tests (test (suc high) low) (test (suc place) p.buckets) (any_wide p s) (eq? s.n p.horizon) b)

pub named : NamedTheorem
named p s = record {
  decided_where = (
    λ a. let h = (which p s a.0).0 a.1 in (h.0, (h.1.0, h.1.2.contains_it)),
    λ a. (suc (place p s), (which p s (suc (place p s))).1 (a.0, (place p s, refl, chosen p s (some_named p s a.1.0 a.1.1)))),
  );
  decided_which = which p s;
}

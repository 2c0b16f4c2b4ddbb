-- Past each rule that is kept, the refusal is the first of those left to judge.
use mathlib.Core.Path.{◌≡◌, sym, ◌∙◌}
use mathlib.Core.Bool.{Bool}
use mathlib.Core.List.{List, [], ◌∷◌}
use Prim.Native.Nat.{ℕ, suc}
use Rattle.std.specs.Prelude.{Result}
use Rattle.std.specs.Result.{IsErrAnd}
use Rattle.refusals.specs.Refusals.{number_of, refusal_in, unless, first_refusal}
use Rattle.refusals.specs.declared.Refusal.{Refusal}
use Rattle.refusals.proofs.RefusalLaws.{kept, broken, handed_on}
use Rattle.plan.specs.Plan.{rule1, rule2, rule14, rule3, rule4, rule16, rule5, rule6, plan_refusal}
use Rattle.plan.specs.declared.Plan.{Plan}
use Rattle.plan.proofs.PlaceLaws.{first_one}
use Rattle.plan.proofs.AcceptedLaws.{Counted, counts_say}
use Rattle.plan.proofs.Plan.judge.Goals.{In_ok-ensure, In_ok-ensure-2, In_ok-ensure-3, In_ok-ensure-4, In_ok-ensure-5, In_ok-ensure-6, In_ok-ensure-7}
use Rattle.plan.proofs.Plan.judge.Goals as goal

-- a rule b, judged by x before the rest: where it is kept the rest is left, where it is not the refusal q is its own
module _ {x b : Bool} (e : x ≡ b) (n : ℕ) (rest : List ℕ) where
  goes_on : 0 ≡ unless x (suc n) → first_refusal (unless b (suc n) ∷ rest) ≡ first_refusal rest
  goes_on h = rw (kept e n h)

  stops : (q : Result Unit Refusal) (r : Refusal) → number_of r ≡ unless x (suc n) → IsErrAnd q (λ f. f ≡ r)
      → refusal_in q ≡ first_refusal (unless b (suc n) ∷ rest)
  stops q r h told = let k = broken e (suc n) r h in rw (k.0) (handed_on q r told k.1)

-- ---- the refusals that are left past each rule

module _ (p : Plan) where
  abbrev past5 : List ℕ
  past5 = unless (rule6 p) 6 ∷ []

  abbrev past16 : List ℕ
  past16 = unless (rule5 p) 5 ∷ past5

  abbrev past4 : List ℕ
  past4 = unless (rule16 p) 16 ∷ past16

  abbrev past3 : List ℕ
  past3 = unless (rule4 p) 4 ∷ past4

  abbrev past14 : List ℕ
  past14 = unless (rule3 p) 3 ∷ past3

  abbrev past2 : List ℕ
  past2 = unless (rule14 p) 14 ∷ past14

  abbrev past1 : List ℕ
  past1 = unless (rule2 p) 2 ∷ past2

left1 : (c : In_ok-ensure) → plan_refusal c.args.self.now ≡ first_refusal (past1 c.args.self.now)
unfolding plan_refusal rule1
left1 c = goes_on c.counts_fit.ensures _ _ c.in_ok-ensure.ensures

left2 : (c : In_ok-ensure-2) → plan_refusal c.args.self.now ≡ first_refusal (past2 c.args.self.now)
left2 c = left1 (goal.at.In_ok-ensure-2 c).In_ok-ensure ∙ goes_on c.thresholds_rise.ensures _ _ c.in_ok-ensure-2.ensures

left14 : (c : In_ok-ensure-3) → plan_refusal c.args.self.now ≡ first_refusal (past14 c.args.self.now)
left14 c = left2 (goal.at.In_ok-ensure-3 c).In_ok-ensure-2 ∙ goes_on c.thresholds_apart.ensures _ _ c.in_ok-ensure-3.ensures

left3 : (c : In_ok-ensure-4) → plan_refusal c.args.self.now ≡ first_refusal (past3 c.args.self.now)
left3 c = left14 (goal.at.In_ok-ensure-4 c).In_ok-ensure-3 ∙ goes_on c.allowances_fit.ensures _ _ c.in_ok-ensure-4.ensures

left4 : (c : In_ok-ensure-5) → plan_refusal c.args.self.now ≡ first_refusal (past4 c.args.self.now)
left4 c = left3 (goal.at.In_ok-ensure-5 c).In_ok-ensure-4 ∙ goes_on c.times_fit.ensures _ _ c.in_ok-ensure-5.ensures

left16 : (c : In_ok-ensure-6) → plan_refusal c.args.self.now ≡ first_refusal (past16 c.args.self.now)
left16 c = left4 (goal.at.In_ok-ensure-6 c).In_ok-ensure-5 ∙ goes_on c.points_fit.ensures _ _ c.in_ok-ensure-6.ensures

left5 : (c : In_ok-ensure-7) → plan_refusal c.args.self.now ≡ first_refusal (past5 c.args.self.now)
left5 c = left16 (goal.at.In_ok-ensure-7 c).In_ok-ensure-6 ∙ goes_on c.buckets_fit.ensures _ _ c.in_ok-ensure-7.ensures

-- rule 1 keeps the places of the others inside the arrays
counted : (c : In_ok-ensure) → Counted c.args.self.now.count c.args.self.now.buckets
counted c = (counts_say _ _).0 (kept c.counts_fit.ensures _ c.in_ok-ensure.ensures)

-- ---- the needs

pub thresholds_rise-requires : goal.thresholds_rise-requires
thresholds_rise-requires c = (counted c).0.1

pub thresholds_apart-requires : goal.thresholds_apart-requires
thresholds_apart-requires c = (counted (goal.at.thresholds_apart-requires c).In_ok-ensure).0.1

pub allowances_fit-requires : goal.allowances_fit-requires
allowances_fit-requires c = (counted (goal.at.allowances_fit-requires c).In_ok-ensure).0.1

pub buckets_fit-requires : goal.buckets_fit-requires
buckets_fit-requires c = let h = counted (goal.at.buckets_fit-requires c).In_ok-ensure in (h.0.1, h.1.1)

pub buckets_cover-requires : goal.buckets_cover-requires
buckets_cover-requires c = (counted (goal.at.buckets_cover-requires c).In_ok-ensure).1.1

-- ---- what is handed back

pub returns-in_err-ensure : goal.returns-in_err-ensure
unfolding plan_refusal rule1
returns-in_err-ensure c = stops c.counts_fit.ensures _ _ _ _ c.in_err-ensure.ensures c.from_residual.ensures.1

pub returns-in_err-ensure-2 : goal.returns-in_err-ensure-2
returns-in_err-ensure-2 c =
    stops c.thresholds_rise.ensures _ _ c.from_residual-in_err-ensure-2.result _ c.in_err-ensure-2.ensures c.from_residual-in_err-ensure-2.ensures.1
    ∙ sym (left1 (goal.at.returns-in_err-ensure-2 c).In_ok-ensure)

pub returns-in_err-ensure-3 : goal.returns-in_err-ensure-3
returns-in_err-ensure-3 c =
    stops c.thresholds_apart.ensures _ _ c.from_residual-in_err-ensure-3.result _ c.in_err-ensure-3.ensures c.from_residual-in_err-ensure-3.ensures.1
    ∙ sym (left2 (goal.at.returns-in_err-ensure-3 c).In_ok-ensure-2)

pub returns-in_err-ensure-4 : goal.returns-in_err-ensure-4
returns-in_err-ensure-4 c =
    stops c.allowances_fit.ensures _ _ c.from_residual-in_err-ensure-4.result _ c.in_err-ensure-4.ensures c.from_residual-in_err-ensure-4.ensures.1
    ∙ sym (left14 (goal.at.returns-in_err-ensure-4 c).In_ok-ensure-3)

pub returns-in_err-ensure-5 : goal.returns-in_err-ensure-5
returns-in_err-ensure-5 c =
    stops c.times_fit.ensures _ _ c.from_residual-in_err-ensure-5.result _ c.in_err-ensure-5.ensures c.from_residual-in_err-ensure-5.ensures.1
    ∙ sym (left3 (goal.at.returns-in_err-ensure-5 c).In_ok-ensure-4)

pub returns-in_err-ensure-6 : goal.returns-in_err-ensure-6
returns-in_err-ensure-6 c =
    stops c.points_fit.ensures _ _ c.from_residual-in_err-ensure-6.result _ c.in_err-ensure-6.ensures c.from_residual-in_err-ensure-6.ensures.1
    ∙ sym (left4 (goal.at.returns-in_err-ensure-6 c).In_ok-ensure-5)

pub returns-in_err-ensure-7 : goal.returns-in_err-ensure-7
returns-in_err-ensure-7 c =
    stops c.buckets_fit.ensures _ _ c.from_residual-in_err-ensure-7.result _ c.in_err-ensure-7.ensures c.from_residual-in_err-ensure-7.ensures.1
    ∙ sym (left16 (goal.at.returns-in_err-ensure-7 c).In_ok-ensure-6)

pub returns : goal.returns
returns c = c.ensure-8.ensures ∙ sym (left5 (goal.at.returns c).In_ok-ensure-7 ∙ rw (← c.buckets_cover.ensures) (first_one _))

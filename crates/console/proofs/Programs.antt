-- The ways of the program, each by its line and its words.
use mathlib.Core.Path.{◌≡◌, refl, sym, ap, subst}
use mathlib.Core.List.{List, [], ◌++◌}
use Prim.Native.Nat.{ℕ, zero, suc, ◌*◌, ◌≤◌, ◌<◌}
use native.Mathlib.Omega.{arith}
use lib.ListN.{length, take, drop}
use Rattle.walk.specs.Units.{wide}
use Rattle.walk.proofs.Tests.{le?_complete, le?_fails}
use Rattle.bucket_test.specs.Draw.{Outcome, drawn_of, outcome_of, begun}
use Rattle.plan.specs.declared.Plan.{Plan}
use Rattle.bucket_test.specs.declared.Drawn.{Drawn}
use Rattle.stored_plan.specs.Reading.{Read, decoded}
use Rattle.console.specs.Run.{ran}
use Rattle.console.specs.Input.{draws_of}
use Rattle.console.specs.Line.{refused_line, line_after, Puts}
use Rattle.console.specs.Program.{ComesTo, Printed, played, served_by, served, Prints}

-- .. and what is known of the text
abbrev pub PrintsGiven : (List ℕ → Type 0) → (List ℕ → Printed) → ℕ → List ℕ → List ℕ → List ℕ → Type 0
PrintsGiven G printed n words before after = (r : Prints printed n words before after) × G r.text

-- a test from its beginning to its line
pub plays : (G : List ℕ → Type 0) (p : Plan) (words words₁ words₂ : List ℕ) (b last : Drawn) (n : ℕ) (before after : List ℕ) → b ≡ drawn_of (begun p words)
    → words₁ ≡ (begun p words).words → (t : ComesTo p (outcome_of b words₁) last words₂) × G t.text → Puts (line_after p last) 0 n before after
    → PrintsGiven G (played p words) n words₂ before after
unfolding played
plays G p words words₁ words₂ b last n before after b-is w-is (t, i) h =
    let e : outcome_of last words₂ ≡ ran p (begun p words) (draws_of t.text) = rw (b-is, w-is) at t.outcome in (
      record {
        text = t.text;
        line_is = subst (λ (o : Outcome). Puts (line_after p (drawn_of o)) 0 n before after) e h;
        words_are = ap (λ (o : Outcome). o.words) e;
      },
      i,
    )

module _ (G : List ℕ → Type 0) (stored words : List ℕ) (n : ℕ) (before after : List ℕ) (got : Read) (is : got ≡ decoded stored) where
  prints : (text line words' : List ℕ) → G text → served_by got.refusal got.plan words text ≡ record { line = line; words = words' }
      → Puts line 0 n before after → PrintsGiven G (served stored words) n words' before after
  unfolding served
  prints text line words' i e h =
      let e : served stored words text ≡ record { line = line; words = words' } = rw (← is) e in (
        record {
          text = text;
          line_is = subst (λ (r : Printed). Puts r.line 0 n before after) (sym e) h;
          words_are = ap (λ (r : Printed). r.words) (sym e);
        },
        i,
      )

  -- the plan is refused
  pub serves_refused : G [] → 0 < got.refusal → Puts (refused_line got.refusal) 0 n before after
      → PrintsGiven G (served stored words) n words before after
  serves_refused i l = prints [] (refused_line got.refusal) words i (by got.refusal l)
    where
      by : (r : ℕ) → 0 < r → served_by r got.plan words [] ≡ record { line = refused_line r; words = words }
      by zero l = absurd (omega arith)
      by (suc r) l = refl

  module _ (none : got.refusal ≡ 0) where
    -- too few words are lent
    pub serves_8 : G [] → length words < wide * got.plan.count → Puts (refused_line 8) 0 n before after
        → PrintsGiven G (served stored words) n words before after
    serves_8 i l = prints [] (refused_line 8) words i (rw (none, le?_fails (wide * got.plan.count) (length words) l))

    -- the test plays on the first m of them
    pub serves : (m : ℕ) → m ≡ wide * got.plan.count → m ≤ length words → (part : List ℕ)
        → PrintsGiven G (played got.plan (take m words)) n part before after → PrintsGiven G (served stored words) n (part ++ drop m words) before after
    serves m e l part (h, i) =
        let r = played got.plan (take m words) h.text in
        prints h.text r.line _ i (rw (none, ← e, le?_complete m (length words) l) (rw (h.words_are, e))) h.line_is

-- How the input is cut into reads does not matter: one text and then another is the two together.
use mathlib.Core.Path.{◌≡◌, refl, ap, ◌∙◌}
use mathlib.Core.Bool.{Bool, true, false, cond}
use mathlib.Core.List.{List, [], ◌∷◌, ◌++◌}
use Prim.Native.Nat.{ℕ}
use lib.ListN.{length, take, drop}
use lib.Seq.{take-append_seam}
use Rattle.plan.specs.Places.{eq?}
use Rattle.bucket_test.specs.Draw.{Outcome, outcome_of}
use Rattle.plan.specs.declared.Plan.{Plan}
use Rattle.bucket_test.specs.declared.Drawn.{Drawn}
use Rattle.console.specs.Ascii.{newline}
use Rattle.console.specs.Input.{draw_of, draws_of}
use Rattle.console.specs.Run.{ran}
use Rattle.console.specs.Program.{ComesTo}
use Rattle.console.proofs.Runs.{run_append}
use Rattle.std.specs.Prelude.{Option}
use Rattle.std.specs.Io.KnownBytes.{Consumes}
use Rattle.std.proofs.KnownBytes.{Consumes-nil, Consumes-trans}

draws-append : (xs ys : List ℕ) → draws_of (xs ++ ys) ≡ draws_of xs ++ draws_of ys
unfolding draws_of
draws-append [] ys = refl
draws-append (c ∷ xs) ys = go (eq? c newline) (draws-append xs ys)
  where
    go : (b : Bool) → draws_of (xs ++ ys) ≡ draws_of xs ++ draws_of ys
        → cond b (draws_of (xs ++ ys)) (draw_of c ∷ draws_of (xs ++ ys)) ≡ cond b (draws_of xs) (draw_of c ∷ draws_of xs) ++ draws_of ys
    go true e = e
    go false e = rw e

-- a run over the draws that stand in the place of a chunk's characters
pub fed : (p : Plan) (o : Outcome) (chunk₀ chunk : List ℕ) (m : ℕ) (d : Drawn) (words : List ℕ) → m ≡ length (draws_of chunk₀)
    → chunk ≡ draws_of chunk₀ ++ drop m chunk₀ → outcome_of d words ≡ ran p o (take m chunk) → outcome_of d words ≡ ran p o (draws_of chunk₀)
fed p o chunk₀ chunk m d words m-is chunk-is o_is =
    let draws : take m chunk ≡ draws_of chunk₀ = rw (chunk-is, m-is) (take-append_seam (draws_of chunk₀) (drop (length (draws_of chunk₀)) chunk₀)) in
    o_is ∙ ap (ran p o) draws

-- what a test comes to on what a reader gave: known bytes, from before to after
abbrev pub ComesToGiven : Plan → Outcome → Drawn → List ℕ → Option (List ℕ) → Option (List ℕ) → Type 0
ComesToGiven p o d words before after = (t : ComesTo p o d words) × Consumes before after t.text

pub taken_none : (p : Plan) (d : Drawn) (words : List ℕ) (known : Option (List ℕ)) → ComesToGiven p (outcome_of d words) d words known known
unfolding draws_of ran
taken_none p d words known = (record { text = []; outcome = refl }, Consumes-nil known)

pub taken_more : (p : Plan) (o : Outcome) (d d' : Drawn) (words words' : List ℕ) (known between left : Option (List ℕ))
    → ComesToGiven p o d words known between → ComesToGiven p (outcome_of d words) d' words' between left
    → ComesToGiven p o d' words' known left
taken_more p o d d' words words' known between left (t, i) (u, j) = (
  record {
    text = t.text ++ u.text;
    outcome = u.outcome ∙ rw (t.outcome, draws-append t.text u.text) (run_append p o (draws_of t.text) (draws_of u.text));
  },
  Consumes-trans known between left t.text u.text i j,
)

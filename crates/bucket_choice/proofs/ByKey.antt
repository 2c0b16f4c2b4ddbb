-- What `min_by_key` picks by a key that is a number: of the items in turn, it keeps the first of the least.
use mathlib.Core.Path.{◌≡◌, refl, sym, ap, ◌∙◌}
use mathlib.Core.List.{List, [], ◌∷◌}
use Prim.Native.Nat.{ℕ}
use denote.Param.Members.{Mut}
use denote.Ref.{Bor}
use Rattle.std.specs.Prelude.{Option, Some, None}
use Rattle.std.proofs.Common.{Ordering, Less, Equal, Greater}
use Rattle.std.specs.Ordering.{nat_cmp, min_by_ordering}
use Rattle.std.specs.Fn.{CalledAt}
use Rattle.std.specs.Iterator.{KeyTurn, PicksMinByKey}
use Rattle.std.specs.List.{FoldsTo, reduce}
use Rattle.std.proofs.lemmas.Iterator.{YieldsList}
use Rattle.std.proofs.lemmas.Iterator.Consumers.{reduce_from_yields_List}

-- the second in the place of the first, where its key is less
abbrev pub lesser : (ℕ → ℕ) → ℕ → ℕ → ℕ
lesser key x z = min_by_ordering (nat_cmp (key x) (key z)) x z

module _ {F : Type 0} (g : Mut F (Bor ℕ × Unit {0}) ℕ) (f : F) (key : ℕ → ℕ)
    (acts : (x k : ℕ) (q : F) → CalledAt g f x k q → (q ≡ f) × (k ≡ key x)) where
  key_of : (o : Ordering) (x z : ℕ) → min_by_ordering o (key x) (key z) ≡ key (min_by_ordering o x z)
  key_of Less x z = refl
  key_of Equal x z = refl
  key_of Greater x z = refl

  turns : (h : F) → h ≡ f → (k x : ℕ) → k ≡ key x → (xs : List ℕ) (q : F × ℕ) (y : ℕ)
      → FoldsTo {P = (F × ℕ) × ℕ} (KeyTurn min_by_ordering min_by_ordering g nat_cmp) ((h, k), x) xs (q, y)
      → FoldsTo (λ p z c. c ≡ lesser key p z) x xs y
  turns h same k x e [] q y t = ap (λ (r : (F × ℕ) × ℕ). r.1) t
  turns h same k x e (z ∷ xs) q y t =
      let turn = t.1 in
      let called = acts z turn.0 t.0.0.0 (rw same at turn.2) in
      let is : turn.1 ≡ nat_cmp (key x) (key z) = rw (e, called.1) at (sym turn.3) in
      let item : t.0.1 ≡ lesser key x z = turn.5 ∙ rw is in
      (t.0.1, item, turns t.0.0.0 called.0 t.0.0.1 t.0.1 (turn.4 ∙ rw (e, called.1, is) (key_of _ x z) ∙ ap key (sym item)) xs q y t.2)

  pub reduce_from_min_by_key : {S : Type 0} {steps : S → Option ℕ → S → Type 0} {all : List ℕ} (s : S) (r : Option ℕ)
      → PicksMinByKey steps g nat_cmp s f r → YieldsList steps (λ x. x) s all → r ≡ reduce (lesser key) all
  reduce_from_min_by_key s None h road = reduce_from_yields_List (lesser key) s None h road
  reduce_from_min_by_key s (Some y) h road =
      let called = acts h.0 h.2 h.3 h.6 in
      reduce_from_yields_List (lesser key) s (Some y) (h.0, h.1, h.5, turns h.3 called.0 h.2 h.0 called.1 h.1 h.4 y h.7) road

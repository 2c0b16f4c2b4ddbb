-- A chunk that is turned into draws where it stands, one character after the other.
use mathlib.Core.Path.{◌≡◌, refl, sym, ap, ◌∙◌}
use mathlib.Core.List.{List, ◌∷◌, ◌++◌, append_assoc, append-nil}
use Prim.Native.Nat.{ℕ, suc, ◌+◌, ◌-◌, ◌≤◌, ◌<◌}
use native.Mathlib.Numerals.{add-one}
use native.Mathlib.Omega.{arith}
use lib.ListN.{length, take, drop, get_or, set, length-set, take-append-drop, drop_of_length-le}
use lib.Seq.{drop-cons, take-suc-set, drop-set-lt, drop-drop, length-take-le}
use Rattle.io.specs.Counts.{IsPrefixLen}
use Rattle.plan.proofs.PlaceLaws.{eq?_complete, eq?_fails}
use Rattle.console.specs.Ascii.{newline}
use Rattle.console.specs.Input.{draw_of, draws_of}

-- i characters are turned into the draws before at; behind these the chunk is as it was
pub record Turned (chunk₀ chunk : List ℕ) (at i : ℕ) : Type 0 where
  pub order : at ≤ i
  pub within : i ≤ length chunk₀
  pub size : length chunk ≡ length chunk₀
  pub done : take at chunk ++ draws_of (drop i chunk₀) ≡ draws_of chunk₀
  pub kept : drop at chunk ≡ drop at chunk₀

drop_later : (xs ys : List ℕ) (i j : ℕ) → i ≤ j → drop i xs ≡ drop i ys → drop j xs ≡ drop j ys
drop_later xs ys i j l e =
    let s : i + (j - i) ≡ j = omega arith in
    rw (← s, ← (drop-drop (j - i) i xs), ← (drop-drop (j - i) i ys), e)

pub turned_none : (chunk : List ℕ) → Turned chunk chunk 0 0
turned_none chunk = record { order = omega arith; within = omega arith; size = refl; done = refl; kept = refl }

module _ (chunk₀ chunk : List ℕ) (at i : ℕ) (t : Turned chunk₀ chunk at i) (h : i < length chunk₀) where
  next : drop i chunk₀ ≡ get_or chunk i 0 ∷ drop (i + 1) chunk₀
  next =
      let l : i < length chunk = omega (arith, t.size) in
      sym (drop_later chunk chunk₀ at i t.order t.kept) ∙ drop-cons chunk i 0 l ∙ rw (add-one i, drop_later chunk chunk₀ at (suc i) (omega (arith, t.order)) t.kept)

  -- a newline is skipped
  pub turned_skip : get_or chunk i 0 ≡ newline → Turned chunk₀ chunk at (i + 1)
  unfolding draws_of
  turned_skip e = record {
    order = omega (arith, t.order);
    within = omega arith;
    size = t.size;
    done = rw (next, eq?_complete (get_or chunk i 0) newline e) at t.done;
    kept = t.kept;
  }

  -- any other becomes a draw
  pub turned_draw : (d : ℕ) → (get_or chunk i 0 ≡ newline → ⊥) → d ≡ draw_of (get_or chunk i 0) → Turned chunk₀ (set chunk at d) (at + 1) (i + 1)
  unfolding draws_of
  turned_draw d ne e =
      let x : at < length chunk = omega (arith, t.order, t.size) in
      record {
        order = omega (arith, t.order);
        within = omega arith;
        size = length-set chunk at d ∙ t.size;
        done = rw (add-one at, take-suc-set chunk at d x, append_assoc, e) (rw (next, eq?_fails (get_or chunk i 0) newline ne) at t.done);
        kept = rw (add-one at, drop-set-lt (suc at) chunk at d (omega arith)) (drop_later chunk chunk₀ at (suc at) (omega arith) t.kept);
      }

module _ (chunk₀ chunk : List ℕ) (at i : ℕ) (t : Turned chunk₀ chunk at i) where
  pub turned_counts : IsPrefixLen at chunk
  turned_counts = let h : at ≤ length chunk = omega (arith, t.order, t.within, t.size) in (h, sym (length-take-le at chunk h))

  pub turned_all : length chunk₀ ≤ i → (at ≡ length (draws_of chunk₀)) × (chunk ≡ draws_of chunk₀ ++ drop at chunk₀)
  unfolding draws_of
  turned_all h =
      let whole : take at chunk ≡ draws_of chunk₀ = rw (drop_of_length-le chunk₀ {i = i} h, append-nil) at t.done in
      (turned_counts.1 ∙ ap length whole, rw (← whole, ← t.kept, take-append-drop))

-- The parts of lent words as `chunks_exact` yields them, one for each threshold.
use mathlib.Core.Path.{◌≡◌, refl, sym, ap, ◌∙◌}
use mathlib.Core.List.{List, [], ◌∷◌, ◌++◌}
use Prim.Native.Nat.{ℕ, zero, suc, ◌+◌, ◌*◌, ◌≤◌, ◌<◌}
use native.Mathlib.Nat.{mul-suc}
use native.Mathlib.Omega.{arith}
use lib.ListN.{length, take, drop, get_or, length-append, length-drop}
use lib.Seq.{take_at, drop_at, drop-drop}
use Rattle.std.specs.Iterator.{AlwaysYields}
use Rattle.std.specs.Slice.Iter.{chunks_exact_rest, chunks_exact_size, chunks_exact_steps}
use Rattle.std.specs.declared.slice.ChunksExact.{ChunksExact}
use Rattle.std.specs.List.{zip}
use Rattle.std.proofs.lemmas.Iterator.{YieldsList, zips, YieldsList-from_slice, YieldsList-from_zip}
use Rattle.std.proofs.iter.Yields.{fronts}
use Rattle.std.specs.Iterator.Adapters.{zip_first, zip_second}
use Rattle.std.specs.declared.iter.Zip.{Zip}
use Rattle.std.proofs.Common.{Iter}
use Rattle.std.specs.Slice.Iter.{iter_rest}
use Rattle.std.proofs.lemmas.List.{get_or_read, length-take, get_or-take}
use Rattle.std.proofs.lemmas.Slice.Zip.{length-zip, get_or-zip}
use Rattle.walk.specs.Units.{wide}
use Rattle.bucket_test.specs.Words.{part_at}
use Rattle.bucket_test.specs.Turn.{no_record}
use Rattle.bucket_test.specs.declared.Threshold.{Threshold}

abbrev pub parts : ℕ → List ℕ → List (List ℕ)
parts zero ws = []
parts (suc n) ws = take wide ws ∷ parts n (drop wide ws)

yields : (n : ℕ) (ws : List ℕ) (s : ChunksExact ℕ) → chunks_exact_rest s ≡ ws → chunks_exact_size s ≡ 769 → length ws ≡ wide * n
    → AlwaysYields chunks_exact_steps (λ y. y.now) s (parts n ws)
unfolding wide
yields zero ws s is size long = λ x t h. omega (arith, ap length is, ap length h.1.0, length-append x.now (chunks_exact_rest t), h.1.1)
yields (suc n) ws s is size long = (
  λ t h. omega (arith, ap length is, mul-suc 769 n, h.1.0),
  λ x t h.
      let l : length x.now ≡ 769 = h.1.1 ∙ size in
      let e : ws ≡ x.now ++ chunks_exact_rest t = sym is ∙ h.1.0 in
      (sym (rw e (take_at x.now (chunks_exact_rest t) 769 l)), yields n (drop 769 ws) t (sym (rw e (drop_at x.now (chunks_exact_rest t) 769 l))) (h.0 ∙ size) (omega (arith, length-drop 769 ws, mul-suc 769 n))),
)

pub YieldsList-from_parts : (n : ℕ) (ws : List ℕ) {s : ChunksExact ℕ} → chunks_exact_rest s ≡ ws → chunks_exact_size s ≡ 769 → length ws ≡ wide * n
    → YieldsList chunks_exact_steps (λ y. y.now) s (parts n ws)
YieldsList-from_parts n ws {s} is size long = record { runs = yields n ws s is size long }

pub length-parts : (n : ℕ) (ws : List ℕ) → length (parts n ws) ≡ n
length-parts zero ws = refl
length-parts (suc n) ws = ap suc (length-parts n (drop wide ws))

pub get_or-parts : (n : ℕ) (ws : List ℕ) (i : ℕ) (d : List ℕ) → i < n → get_or (parts n ws) i d ≡ part_at i ws
unfolding part_at wide
get_or-parts (suc n) ws zero d l = refl
get_or-parts (suc n) ws (suc i) d l =
    let later : 769 + 769 * i ≡ 769 * suc i = omega (arith, mul-suc 769 i) in
    get_or-parts n (drop 769 ws) i d (omega arith) ∙ ap (take 769) (drop-drop (769 * i) 769 ws ∙ ap (λ k. drop k ws) later)
get_or-parts zero ws i d l = absurd (omega arith)

-- ---- the first n records, allowances and parts, side by side

module _ (rs : List Threshold) (es : List ℕ) (ws : List ℕ) (n : ℕ) (many : n ≤ length rs) (enough : n ≤ length es) where
  abbrev pub side_by_side : List ((Threshold × ℕ) × List ℕ)
  side_by_side = zip (zip (take n rs) (take n es)) (parts n ws)

  pub YieldsList-side_by_side : {s : Zip (Zip (Iter Threshold) (Iter ℕ)) (ChunksExact ℕ)}
      → iter_rest (zip_first (zip_first s)) ≡ take n rs → iter_rest (zip_second (zip_first s)) ≡ take n es
      → chunks_exact_rest (zip_second s) ≡ ws → chunks_exact_size (zip_second s) ≡ 769 → length ws ≡ wide * n
      → YieldsList (zips (zips fronts fronts) chunks_exact_steps) (λ x. ((x.0.0.now, x.0.1.now), x.1.now)) s side_by_side
  YieldsList-side_by_side a b c size long =
      YieldsList-from_zip (YieldsList-from_zip (YieldsList-from_slice (take n rs) a) (YieldsList-from_slice (take n es) b)) (YieldsList-from_parts n ws c size long)

  pairs : length (zip (take n rs) (take n es)) ≡ n
  pairs = omega (arith, length-zip (take n rs) (take n es), length-take n rs, length-take n es)

  pub length-side_by_side : length side_by_side ≡ n
  length-side_by_side = omega (arith, length-zip (zip (take n rs) (take n es)) (parts n ws), pairs, length-parts n ws)

  pub at_place : (i : ℕ) (x : (Threshold × ℕ) × List ℕ) → i < n → x ≡ get_or side_by_side i x
      → (x.0.0 ≡ get_or rs i no_record) × (x.0.1 ≡ get_or es i 0) × (x.1 ≡ part_at i ws)
  at_place i x l is =
      let in_pairs : i < length (zip (take n rs) (take n es)) = omega (arith, pairs) in
      let in_parts : i < length (parts n ws) = omega (arith, length-parts n ws) in
      let in_records : i < length (take n rs) = omega (arith, length-take n rs) in
      let in_allowances : i < length (take n es) = omega (arith, length-take n es) in
      let all = is ∙ get_or-zip (zip (take n rs) (take n es)) (parts n ws) i x in_pairs in_parts in
      let pair = ap (λ (y : (Threshold × ℕ) × List ℕ). y.0) all ∙ get_or-zip (take n rs) (take n es) i x.0 in_records in_allowances in (
        get_or_read rs i x.0.0 (omega arith) (ap (λ (y : Threshold × ℕ). y.0) pair ∙ get_or-take n rs i x.0.0 l) no_record,
        get_or_read es i x.0.1 (omega arith) (ap (λ (y : Threshold × ℕ). y.1) pair ∙ get_or-take n es i x.0.1 l) 0,
        ap (λ (y : (Threshold × ℕ) × List ℕ). y.1) all ∙ get_or-parts n ws i x.1 l,
      )

-- What a turn of each loop of src/row.rt leaves to do.
use Rattle.std.proofs.Common.{◌≡◌, ℕ, suc, Option, Some, None, map, ap, ◌∙◌, ◌+◌, ◌-◌, ◌<◌, ◌≤◌, true, List, [], ◌∷◌, ◌++◌, length, reverse, get_or, take, drop, set, add-zero, le_antisymm, lt_of_not-le, add-one, arith, take_all, drop-cons, take-suc-set, drop-set-lt}
use Rattle.std.proofs.lemmas.List.{drop_all, get_or_default, set-append_right, length-reverse}
use Rattle.std.proofs.lemmas.Iterator.Consumers.{YieldsList-so_far, YieldsList-turn, YieldsList-end}
use Rattle.std.proofs.lemmas.Iterator.{YieldsList}
use Rattle.std.specs.Iterator.{Yields}
use lib.Seq.{append_snoc}
use Rattle.walk.specs.Numbers.{sum, all_up_to}
use Rattle.walk.specs.Mass.{mass_up, rounding}
use Rattle.walk.specs.Row.{cells_by, kept, dropped}
use Rattle.walk.proofs.Lists.{sum-take-suc, sum-take-drop, sum-take-reverse, sum-drop_falls, all_cons}
use Rattle.walk.proofs.Cuts.{Keeps, keeps, Drops, drops}

-- ---- spread at i: what is done, and what is to come

abbrev pub spread_rest : ℕ → List ℕ → ℕ → ℕ → List ℕ
spread_rest a l prev i = take i l ++ cells_by (mass_up a) prev (drop i l)

-- the roundings to come
abbrev pub round_rest : ℕ → List ℕ → ℕ → ℕ → ℕ
round_rest a l prev i = sum (cells_by (rounding a) prev (drop i l))

module _ (a : ℕ) (l : List ℕ) (prev i m : ℕ) where
  pub spread_more : i < length l → m ≡ mass_up a (get_or l i 0) prev → spread_rest a (set l i m) (get_or l i 0) (i + 1) ≡ spread_rest a l prev i
  unfolding cells_by
  spread_more h q =
      let b : i < suc i = omega arith in
      rw (q, add-one i, take-suc-set, drop-set-lt (suc i), drop-cons l i 0, append_snoc)

  pub spread_done : length l ≤ i → m ≡ mass_up a 0 prev → l ++ m ∷ [] ≡ spread_rest a l prev i
  unfolding cells_by
  spread_done h q = rw (q, take_all, drop_all)

  pub round_more : i < length l → round_rest a l prev i ≡ rounding a (get_or l i 0) prev + round_rest a (set l i m) (get_or l i 0) (i + 1)
  unfolding cells_by
  round_more h =
      let b : i < suc i = omega arith in
      rw (add-one i, drop-set-lt (suc i), drop-cons l i 0)

  pub round_done : length l ≤ i → round_rest a l prev i ≡ rounding a 0 prev
  unfolding cells_by
  round_done h = rw (drop_all, add-zero)

  -- the old masses that are left are small
  pub small_more : (b : ℕ) → i < length l → all_up_to b (drop i l) ≡ true
      → (get_or l i 0 ≤ b) × (all_up_to b (drop (i + 1) (set l i m)) ≡ true)
  small_more b h q =
      let c : i < suc i = omega arith in
      rw (add-one i, drop-set-lt (suc i)) (all_cons b (get_or l i 0) (drop (suc i) l) (rw (drop-cons l i 0) at q))

-- the last new mass goes behind the others
pub spread_last : (part l : List ℕ) (n m : ℕ) → n < length part → length l ≡ n → set (l ++ drop n part) n m ≡ (l ++ m ∷ []) ++ drop (n + 1) part
spread_last part l n m h is =
    let e : n - n ≡ 0 = omega arith in
    let b : n ≤ n = omega arith in
    rw (set-append_right l (drop n part) n n m is b, e, drop-cons part n 0, add-one, append_snoc)

not_less : {m n : ℕ} → (n < m → ⊥) → m ≤ n
not_less h = omega (arith, lt_of_not-le h)

-- ---- absorb at i: the masses before i fit, and with one more they do not

module _ (e under taken : ℕ) (cs : List ℕ) (i : ℕ) (is : taken ≡ under + sum (take i cs)) (fits : taken ≤ e) where
  pub dropped_is : i ≤ length cs → (i < length cs → e - taken < get_or cs i 0) → i ≡ dropped e under cs
  dropped_is within stop = go (drops e under (omega arith) cs)
    where
      rises : (j k : ℕ) → j ≤ k → sum (take j cs) ≤ sum (take k cs)
      rises j k h = omega (arith, sum-take-drop cs j, sum-take-drop cs k, sum-drop_falls cs j k h)

      go : Drops e under cs (dropped e under cs) → i ≡ dropped e under cs
      go d = le_antisymm
          (not_less (λ (q : dropped e under cs < i). omega (arith, d.most (omega arith), rises (suc (dropped e under cs)) i q)))
          (not_less (λ (q : i < dropped e under cs).
          omega (arith, d.fits, d.within, stop (omega (arith, d.within)), sum-take-suc cs i, rises (suc i) (dropped e under cs) q)))

pub sum_push : {A : Type 0} (v : A → ℕ) (ys : List A) (y : A) → sum (map v (ys ++ y ∷ [])) ≡ sum (map v ys) + v y
sum_push v [] y = omega arith
sum_push v (x ∷ ys) y = omega (arith, sum_push v ys y)

-- .. where the masses cs come from an iterator, which has given ys, and now gives r
module _ {S A : Type 0} {steps : S → Option A → S → Type 0} {v : A → ℕ} {s t u : S} {cs : List ℕ} (comes : YieldsList steps v s cs)
    (ys : List A) (came : Yields steps s ys t) {r : Option A} (next : steps t r u)
    (under : ℕ) {e taken i : ℕ} (count : i ≡ length ys) (is : taken ≡ under + sum (map v ys)) (fits : taken ≤ e) where
  so_far : taken ≡ under + sum (take i cs)
  so_far = rw count (is ∙ ap (λ (l : List ℕ). under + sum l) (YieldsList-so_far comes ys t came))

  pub absorbed_all : r ≡ None → (i ≡ dropped e under cs) × (taken ≡ under + sum (take i cs))
  absorbed_all none =
      let n : (map v ys ≡ cs) × (length ys ≡ length cs) = YieldsList-end comes ys t came r u none next in
      (dropped_is e under taken cs i so_far fits (omega (arith, n.1)) (λ h. absurd (omega (arith, n.1))), so_far)

  pub absorbed_some : {y : A} → r ≡ Some y → e - taken < v y → (i ≡ dropped e under cs) × (taken ≡ under + sum (take i cs))
  absorbed_some {y} some large =
      let n : (length ys < length cs) × (v y ≡ get_or cs (length ys) (v y)) = YieldsList-turn comes ys t came r u y some next in
      let b : length ys < length cs = n.0 in
      (dropped_is e under taken cs i so_far fits (omega arith) (λ h. rw count (omega (arith, n.1, get_or_default cs (length ys) (v y) 0 b))), so_far)

-- .. and where they come from the top: those that are absorbed are the cells from place k on
pub kept_back : (e over d : ℕ) (cs : List ℕ) → over ≤ e → d ≡ dropped e over (reverse cs)
    → (d ≤ length cs) × (length cs - d ≡ kept e over cs) × (sum (take d (reverse cs)) ≡ sum (drop (length cs - d) cs))
kept_back e over d cs h is = go (drops e over h (reverse cs)) (keeps e over h cs)
  where
    go : Drops e over (reverse cs) (dropped e over (reverse cs)) → Keeps e over cs (kept e over cs)
        → (d ≤ length cs) × (length cs - d ≡ kept e over cs) × (sum (take d (reverse cs)) ≡ sum (drop (length cs - d) cs))
    go top keep =
        let n : d ≤ length cs = omega (arith, top.within, length-reverse cs) in
        let s : sum (take d (reverse cs)) ≡ sum (drop (length cs - d) cs) = sum-take-reverse cs d n in
        let k : ℕ = kept e over cs in
        let fits : sum (drop (length cs - d) cs) + over ≤ e = omega (arith, s, rw (← is) at top.fits) in (
          n,
          le_antisymm
              (not_less (λ (q : k < length cs - d). omega (
                arith,
                keep.fits,
                sum-drop_falls cs k (length cs - suc d) (omega arith),
                sum-take-reverse cs (suc d) (omega arith),
                (rw (← is) at top.most) (omega (arith, length-reverse cs)),
              )))
              (not_less (λ (q : length cs - d < k). omega (arith, keep.least (length cs - d) q))),
          s,
        )

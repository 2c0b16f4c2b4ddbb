-- The two forms of the walk agree at every step: the row's boundaries are the smallest and the largest of rules 3.4 and 3.5, and what a step
-- makes of the row is what it makes of the masses by count.
use Rattle.std.proofs.Common.{◌≡◌, ℕ, zero, suc, ◌+◌, ◌-◌, ◌<◌, ◌≤◌, Bool, true, false, ◌⊎◌, ◌↔◌, List, [], ◌∷◌, length, get_or, take, drop, sym, refl, ap, ◌∙◌, inl, inr, add-zero, add_assoc, add-suc, lt_of_not-le, zero-add, arith, length-take, get_or-drop, take_all, get_or-take}
use mathlib.Core.Path.{fun_ext}
use native.Mathlib.Nat.{add-sub_cancel_left}
use lib.ListN.{get_or-eq_default}
use Rattle.walk.specs.Numbers.{le?, lt?, only, sum_to, sum, Smallest, Largest}
use Rattle.walk.specs.Units.{M, million, wide}
use Rattle.walk.specs.Spending.{IsSpending}
use Rattle.walk.specs.Mass.{mass_up, rounding}
use Rattle.walk.specs.Walk.{is_live, Walk, below, lower, previous, cellwise, new_mass, new_rounding, mass_from, mass_below, FitsUpper, FitsLower, upper_boundary, first_live, start, absorbed, step_walk, walk, first_at, upper_at, wide?, NoWideBefore}
use Rattle.walk.specs.Row.{Row, upper, by_count, start_row, cells_by, new_masses, roundings, kept, dropped, cut, step_row, rows, Sound}
use Rattle.walk.specs.Facts.{as_walk, Same, AgreementTheorem}
use Rattle.walk.proofs.Tests.{test, Le?, le, gt, le?_complete, le?_fails, only-only, only_fails, only-holds, sum_cong, sum_le, sum-zero}
use Rattle.walk.proofs.Lists.{sum-take-suc, sum-take-drop}
use Rattle.walk.proofs.Rounding.{mass_none, rounding_none}
use Rattle.walk.proofs.Cells.{cells_length, comes, cells-get_or}
use Rattle.walk.proofs.Cuts.{Keeps, Drops}
use Rattle.walk.proofs.Searches.{smallest_only, largest-only, found_up, found_down}
use Rattle.walk.proofs.Boundaries.{wide_fails}
use Rattle.walk.proofs.RowSteps.{keep, drop_low, apart, step_first, step_upper, allowed_next, rows_sound}

at_below : (f : ℕ) (xs : List ℕ) (c : ℕ) → c < f → by_count f xs c ≡ 0
unfolding by_count
at_below f xs c h = only_fails f c (get_or xs (c - f) 0) h

pub at_add : (f : ℕ) (xs : List ℕ) (i : ℕ) → by_count f xs (f + i) ≡ get_or xs i 0
unfolding by_count
at_add f xs i = rw (only-holds f (f + i) (get_or xs (f + i - f) 0) (omega arith), add-sub_cancel_left f i)

-- no mass is at another count than those of the list
pub at_off : (f : ℕ) (xs : List ℕ) (c : ℕ) → (c < f) ⊎ (f + length xs ≤ c) → by_count f xs c ≡ 0
at_off f xs c (inl h) = at_below f xs c h
at_off f xs c (inr h) =
    let e : f + (c - f) ≡ c = omega arith in
    (rw e at (at_add f xs (c - f))) ∙ get_or-eq_default xs 0 (omega arith)

-- what holds below f and at each f + i holds at every count
by_place : (f : ℕ) (P : ℕ → Type 0) → ((c : ℕ) → c < f → P c) → ((i : ℕ) → P (f + i)) → (c : ℕ) → P c
by_place f P under from c = go (le? f c) (test f c)
  where
    go : (b : Bool) → Le? f c b → P c
    go true (le h) = let e : f + (c - f) ≡ c = omega arith in rw e at (from (c - f))
    go false (gt h) = under c h

-- ---- new masses

previous_at : (f : ℕ) (xs : List ℕ) (i : ℕ) → previous (by_count f xs) (f + i) ≡ comes 0 xs i
previous_at zero xs zero = refl
previous_at (suc f) xs zero = rw add-zero (at_below (suc f) xs f (omega arith))
previous_at f xs (suc i) = rw add-suc (at_add f xs i)

previous-below : (f : ℕ) (xs : List ℕ) (c : ℕ) → c < f → previous (by_count f xs) c ≡ 0
previous-below f xs zero h = refl
previous-below f xs (suc c) h = at_below f xs c (omega arith)

module _ (cell : ℕ → ℕ → ℕ) (none : cell 0 0 ≡ 0) (f : ℕ) (xs : List ℕ) where
  pub cells_at : (c : ℕ) → cellwise cell (by_count f xs) c ≡ by_count f (cells_by cell 0 xs) c
  cells_at =
      by_place f (λ c. cellwise cell (by_count f xs) c ≡ by_count f (cells_by cell 0 xs) c)
      (λ c h. rw (at_below f xs c h, previous-below f xs c h, at_below f (cells_by cell 0 xs) c h) none)
      (λ i. rw (at_add f (cells_by cell 0 xs) i, at_add f xs i, previous_at f xs i) (sym (cells-get_or cell none 0 xs i)))

-- ---- sums by count are sums of parts of the row

at_sum : (f : ℕ) (xs : List ℕ) (i : ℕ) → sum_to (f + i) (by_count f xs) ≡ sum (take i xs)
at_sum f xs zero = rw add-zero (sum-zero f (by_count f xs) (λ c h. at_below f xs c h))
at_sum f xs (suc i) = rw add-suc (omega (arith, at_sum f xs i, at_add f xs i, sum-take-suc xs i))

-- all of it, over the counts from f on
pub at_live : (f : ℕ) (xs : List ℕ) → sum_to (f + length xs) (λ c. only (le? f c) (by_count f xs c)) ≡ sum xs
unfolding by_count
at_live f xs =
    sum_cong (f + length xs) _ _ (λ c l. only-only (le? f c) (get_or xs (c - f) 0))
    ∙ at_sum f xs (length xs)
    ∙ rw (take_all (length xs) xs (omega arith))

-- the counts < j among the first j + r
below-sum : (g : ℕ → ℕ) (j r : ℕ) → sum_to (j + r) (λ c. only (lt? c j) (g c)) ≡ sum_to j g
below-sum g j zero = rw add-zero (sum_cong j (λ c. only (lt? c j) (g c)) g (λ c h. only-holds (suc c) j (g c) h))
below-sum g j (suc r) = rw add-suc (omega (arith, below-sum g j r, only_fails (suc (j + r)) j (g (j + r)) (omega arith)))

-- every count is ≥ j or < j
pub from_below : (t : ℕ) (g : ℕ → ℕ) (j : ℕ) → mass_from t g j + mass_below t g j ≡ sum_to (suc t) g
unfolding mass_from mass_below
from_below t g j = go (suc t)
  where
    one : (c : ℕ) (p q : Bool) → Le? j c p → Le? (suc c) j q → only p (g c) + only q (g c) ≡ g c
    one c true true (le h) (le k) = absurd (omega arith)
    one c true false h k = omega arith
    one c false true h k = omega arith
    one c false false (gt h) (gt k) = absurd (omega arith)

    go : (n : ℕ) → sum_to n (λ c. only (le? j c) (g c)) + sum_to n (λ c. only (lt? c j) (g c)) ≡ sum_to n g
    go zero = refl
    go (suc n) = omega (arith, go n, one n (le? j n) (lt? n j) (test j n) (test (suc n) j))

-- a higher boundary leaves more below it
below_rises : (t : ℕ) (g : ℕ → ℕ) (i j : ℕ) → i ≤ j → mass_below t g i ≤ mass_below t g j
unfolding mass_below
below_rises t g i j h = sum_le (suc t) _ _ (λ c l. one c (lt? c i) (lt? c j) (test (suc c) i) (test (suc c) j))
  where
    one : (c : ℕ) (p q : Bool) → Le? (suc c) i p → Le? (suc c) j q → only p (g c) ≤ only q (g c)
    one c true true u v = omega arith
    one c true false (le u) (gt v) = absurd (omega arith)
    one c false q u v = omega arith

module _ (t f : ℕ) (xs : List ℕ) (fits : f + length xs ≤ suc t) where
  pub at_total : sum_to (suc t) (by_count f xs) ≡ sum xs
  at_total =
      let e : f + (suc t - f) ≡ suc t = omega arith in
      (rw e at (at_sum f xs (suc t - f))) ∙ rw (take_all (suc t - f) xs (omega arith))

  pub at_under : (d : ℕ) → d ≤ length xs → mass_below t (by_count f xs) (f + d) ≡ sum (take d xs)
  unfolding mass_below
  at_under d h =
      let e : f + d + (suc t - (f + d)) ≡ suc t = omega arith in
      (rw e at (below-sum (by_count f xs) (f + d) (suc t - (f + d)))) ∙ at_sum f xs d

  pub at_over : (k : ℕ) → k ≤ length xs → mass_from t (by_count f xs) (f + k) ≡ sum (drop k xs)
  at_over k h = omega (arith, from_below t (by_count f xs) (f + k), at_under k h, at_total, sum-take-drop xs k)

-- ---- boundaries

-- both boundaries exist, where the spent masses are allowed
pub upper_exists : (t e : ℕ) (g : ℕ → ℕ) (over : ℕ) → over ≤ e → Smallest (FitsUpper t e g over) 1 (1 + t) (upper_boundary t e g over)
unfolding upper_boundary mass_from
upper_exists t e g over h =
    let none : mass_from t g (1 + t) ≡ 0 = sum-zero (suc t) (λ c. only (le? (1 + t) c) (g c)) (λ c l. only_fails (1 + t) c (g c) (omega arith)) in
    found_up (λ j. mass_from t g j + over) e t 1 (omega (arith, none))

pub lower_exists : (t e : ℕ) (g : ℕ → ℕ) (under : ℕ) → under ≤ e → Largest (FitsLower t e g under) 0 (suc t) (first_live t e g under)
unfolding first_live mass_below
lower_exists t e g under h =
    let none : mass_below t g 0 ≡ 0 = sum-zero (suc t) (λ c. only (lt? c 0) (g c)) (λ c l. only_fails (suc c) 0 (g c) (omega arith)) in
    found_down (λ f. mass_below t g f + under) e (suc t) (omega (arith, none))

module _ (t e f : ℕ) (cs : List ℕ) (fits : f + length cs ≤ suc t) where
  pub upper_smallest : (over k : ℕ) → Keeps e over cs k → 0 < k → Smallest (FitsUpper t e (by_count f cs) over) 1 (1 + t) (f + k)
  upper_smallest over k keep some = record {
    from = omega arith;
    to = omega (arith, keep.within);
    holds = omega (arith, at_over t f cs fits k keep.within, keep.fits);
    first = λ i l m x. none_before i x;
  }
    where
      none_before : (i : ℕ) → FitsUpper t e (by_count f cs) over i → f + k ≤ i
      none_before i x =
          let s : suc (k - 1) ≡ k = omega arith in
          let j : k - 1 ≤ length cs = omega (arith, keep.within) in
          let r : f + (k - 1) < i = lt_of_not-le (λ (q : i ≤ f + (k - 1)).
          omega (
            arith,
            keep.least (k - 1) (omega arith),
            at_over t f cs fits (k - 1) j,
            from_below t (by_count f cs) i,
            from_below t (by_count f cs) (f + (k - 1)),
            below_rises t (by_count f cs) i (f + (k - 1)) q,
          )) in
          omega arith

  pub lower-largest : (under d : ℕ) → Drops e under cs d → d < length cs → Largest (FitsLower t e (by_count f cs) under) 0 (suc t) (f + d)
  lower-largest under d drop more = record {
    from = omega arith;
    to = omega arith;
    holds = omega (arith, at_under t f cs fits d drop.within, drop.fits);
    last = λ i l m x. none_after i x;
  }
    where
      none_after : (i : ℕ) → FitsLower t e (by_count f cs) under i → i ≤ f + d
      none_after i x =
          let r : i < f + suc d = lt_of_not-le (λ (q : f + suc d ≤ i).
          omega (
            arith,
            drop.most more,
            at_under t f cs fits (suc d) more,
            below_rises t (by_count f cs) (f + suc d) i q,
          )) in
          omega arith

-- ---- spent masses

cut_at : (f d m : ℕ) (xs : List ℕ) (c : ℕ) → only (is_live (f + d) (f + d + m) c) (by_count f xs c) ≡ by_count (f + d) (take m (drop d xs)) c
cut_at f d m xs =
    by_place (f + d) (λ c. only (is_live (f + d) (f + d + m) c) (by_count f xs c) ≡ by_count (f + d) (take m (drop d xs)) c)
    (λ c h. rw (le?_fails (f + d) c h) (sym (at_below (f + d) (take m (drop d xs)) c h)))
    (λ i.
    rw (at_add (f + d) (take m (drop d xs)) i, le?_complete (f + d) (f + d + i) (omega arith), add_assoc f d i, at_add f xs (d + i))
    (here i (lt? (f + (d + i)) (f + d + m)) (test (suc (f + (d + i))) (f + d + m))))
  where
    here : (i : ℕ) (b : Bool) → Le? (suc (f + (d + i))) (f + d + m) b → only b (get_or xs (d + i) 0) ≡ get_or (take m (drop d xs)) i 0
    here i true (le k) = sym (get_or-take m (drop d xs) i 0 (omega arith) ∙ get_or-drop d xs i 0)
    here i false (gt k) = sym (get_or-eq_default (take m (drop d xs)) 0 (omega (arith, length-take m (drop d xs))))

-- ---- the two walks

start_mass : (c : ℕ) → only (le? c 0) M ≡ by_count 0 (M ∷ []) c
start_mass zero = rw (only-holds 0 0 M (omega arith)) (sym (at_add 0 (M ∷ []) 0))
start_mass (suc c) =
    only_fails (suc c) 0 M (omega arith)
    ∙ (rw (zero-add (suc c)) at (sym (at_add 0 (M ∷ []) (suc c))))

pub start_same : Same start start_row
unfolding start start_row
start_same = record { first_same = refl; upper_same = refl; mass_same = start_mass; over_same = refl; under_same = refl; rounded_same = refl }

pub same_as_walk : (w : Walk) (r : Row) → Same w r → w ≡ as_walk r
unfolding as_walk
same_as_walk w r s = λ i. record {
  first = s.first_same i;
  upper = s.upper_same i;
  mass = fun_ext s.mass_same i;
  over = s.over_same i;
  under = s.under_same i;
  rounded = s.rounded_same i;
}

module _ (a : ℕ) (threshold : a ≤ million) (e : ℕ) (half : e + e < M) (n : ℕ) (r : Row) (s : Sound e r) (top : upper r ≤ suc n) where
  abbrev cells : List ℕ
  cells = new_masses a r.masses

  abbrev g : ℕ → ℕ
  g = new_mass a (by_count r.first r.masses)

  new_same : g ≡ by_count r.first cells
  new_same = fun_ext (cells_at (mass_up a) (mass_none a) r.first r.masses)

  fits : r.first + length cells ≤ suc (suc n)
  fits = omega (arith, cells_length (mass_up a) 0 r.masses)

  abbrev d : ℕ
  d = dropped e r.under cells

  abbrev k : ℕ
  k = kept e r.over cells

  keeps_k : Keeps e r.over cells k
  keeps_k = keep a threshold e half r s

  drops_d : Drops e r.under cells d
  drops_d = drop_low a threshold e half r s

  d<k : d < k
  d<k = apart a threshold e half r s

  -- the boundaries of the row after the step are those of rules 3.4 and 3.5
  pub upper_is : Smallest (FitsUpper (suc n) e g r.over) 1 (1 + suc n) (upper (step_row a e r))
  upper_is =
      rw (new_same, step_upper a threshold e half r s)
      (upper_smallest (suc n) e r.first cells fits r.over k keeps_k (omega (arith, d<k)))

  pub lower_is : Largest (FitsLower (suc n) e g r.under) 0 (suc (suc n)) (step_row a e r).first
  lower_is =
      rw (new_same, step_first a threshold e half r s)
      (lower-largest (suc n) e r.first cells fits r.under d drops_d (omega (arith, d<k, keeps_k.within)))

  -- the searches find them
  upper_found : upper_boundary (suc n) e g r.over ≡ r.first + k
  upper_found = smallest_only (upper_exists (suc n) e g r.over s.over_fits) upper_is ∙ step_upper a threshold e half r s

  lower_found : first_live (suc n) e g r.under ≡ r.first + d
  lower_found = largest-only (lower_exists (suc n) e g r.under s.under_fits) lower_is ∙ step_first a threshold e half r s

  -- the roundings, by count
  rounded_found : sum_to (suc (suc n)) (new_rounding a (by_count r.first r.masses)) ≡ roundings a r.masses
  rounded_found =
      sum_cong (suc (suc n)) _ _ (λ c l. cells_at (rounding a) (rounding_none a) r.first r.masses c)
      ∙ at_total (suc n) r.first (cells_by (rounding a) 0 r.masses) (omega (arith, cells_length (rounding a) 0 r.masses))

  pub step_same : Same (step_walk a e (suc n) (as_walk r)) (step_row a e r)
  unfolding step_walk absorbed as_walk step_row cut
  step_same =
      let u : r.first + k ≡ r.first + d + (k - d) = omega (arith, d<k) in
      record {
        first_same = lower_found;
        upper_same = upper_found ∙ sym (step_upper a threshold e half r s);
        mass_same = λ c. rw (lower_found, upper_found, cells_at (mass_up a) (mass_none a) r.first r.masses c, u) (cut_at r.first d (k - d) cells c);
        over_same = ap (λ (x : ℕ). r.over + x) (rw (upper_found, new_same) (at_over (suc n) r.first cells fits k keeps_k.within));
        under_same = ap (λ (x : ℕ). r.under + x) (rw (lower_found, new_same) (at_under (suc n) r.first cells fits d drops_d.within));
        rounded_same = ap (λ (x : ℕ). r.rounded + x) rounded_found;
      }

-- the theorem of this file
pub same : AgreementTheorem
unfolding walk rows
same a threshold E spends zero = start_same
same a threshold E spends (suc n) =
    rw (same_as_walk (walk a E n) (rows a E n) (same a threshold E spends n))
    (step_same a threshold (E (suc n)) (spends.half (suc n)) n (rows a E n)
    (allowed_next a threshold E spends n (rows a E n) (rows_sound a threshold E spends n)) (rows_sound a threshold E spends n).top)

module _ (a : ℕ) (threshold : a ≤ million) (E : ℕ → ℕ) (spends : IsSpending E) where
  -- the boundaries in both forms, and what is wide
  pub first_at_lem : (n : ℕ) → first_at a E n ≡ (rows a E n).first
  unfolding first_at
  first_at_lem n = (same a threshold E spends n).first_same

  pub upper_at_lem : (n : ℕ) → upper_at a E n ≡ upper (rows a E n)
  unfolding upper_at
  upper_at_lem n = (same a threshold E spends n).upper_same

  pub in_order : (n : ℕ) → first_at a E n ≤ upper_at a E n
  in_order n = omega (arith, first_at_lem n, upper_at_lem n)

  pub not_wide : (n : ℕ) → NoWideBefore a E n ↔ ((t : ℕ) → t < n → ¬ (length (rows a E t).masses ≡ wide))
  unfolding NoWideBefore lower
  not_wide n = (
    λ none t l e. (says t).0 (none t l) (omega (arith, (same a threshold E spends t).first_same, (same a threshold E spends t).upper_same, e)),
    λ none t l. (says t).1 (λ e. none t l (omega (arith, (same a threshold E spends t).first_same, (same a threshold E spends t).upper_same, e))),
  )
    where
      says : (t : ℕ) → (wide? (walk a E t).upper (below (walk a E t).first) ≡ false) ↔ (¬ ((walk a E t).upper ≡ (walk a E t).first + wide))
      says t = wide_fails (walk a E t).upper (walk a E t).first (omega (arith, (same a threshold E spends t).first_same, (same a threshold E spends t).upper_same))

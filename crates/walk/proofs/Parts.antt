-- A threshold's part, as `trim`, `advance` and `step` leave it.
use Rattle.std.proofs.Common.{◌≡◌, ℕ, ◌+◌, ◌-◌, ◌<◌, ◌≤◌, List, ◌++◌, length, take, drop, replicate, ℤ, sym, ap, ◌∙◌, arith, length-drop, take-append-drop, length-take-le, take_at, w32, to_z, of_z}
use lib.Seq.{take-append-le, drop-append-le}
use mir.ValLaws.{to_z-of_z}
use Rattle.walk.specs.Numbers.{sum}
use Rattle.walk.specs.Units.{wide}
use Rattle.walk.specs.Mass.{mass_up}
use Rattle.walk.specs.Walk.{below}
use Rattle.walk.specs.Row.{Row, upper, new_masses, roundings, kept, dropped, cut, step_row}
use Rattle.walk.specs.Record.{Counted, Ordered, first_above, row_of, record_of, padded}
use Rattle.walk.specs.Soundness.{Steppable}
use Rattle.walk.specs.declared.Walked.{Walked}
use Rattle.walk.specs.declared.row.Cut.{Cut}
use Rattle.walk.proofs.Cells.{cells_length, roundings_le}
use Rattle.walk.proofs.Cuts.{keeps, drops, cut_order}
use Rattle.walk.proofs.RowSteps.{keep, cells_full, apart, step_length, step_upper, step_sound, step_moves}
use Rattle.walk.proofs.Boundaries.{above_below}
use Rattle.walk.proofs.Signed.{below_fits}
use Rattle.walk.proofs.SoundnessLaws.{row_front}

-- ---- trim

-- the boundaries do not meet, and lie among the cells
pub places : (e over under : ℕ) (cs : List ℕ) → over ≤ e → under ≤ e → e + e < sum cs + over + under
    → (k d : ℕ) → k ≡ kept e over cs → d ≡ dropped e under cs → (d < k) × (k ≤ length cs)
places e over under cs ho hu h k d p q =
    let ks = keeps e over ho cs in
    rw (p, q) (cut_order e over under cs (kept e over cs) (dropped e under cs) h ks (drops e under hu cs), ks.within)

-- k words from lo on, all among the cells cs in front, go to the front
shifted : {l l1 : List ℕ} (cs rest : List ℕ) (lo k : ℕ) → lo + k ≤ length cs → l ≡ cs ++ rest → l1 ≡ take k (drop lo l) ++ drop k l
    → take k l1 ≡ take k (drop lo cs)
shifted {l} cs rest lo k room is p =
    let n1 : k ≤ length (drop lo cs) = omega (arith, length-drop lo cs) in
    let same : take k (drop lo l) ≡ take k (drop lo cs) =
    ap (λ (x : List ℕ). take k (drop lo x)) is
    ∙ ap (take k) (drop-append-le lo cs rest (omega arith))
    ∙ take-append-le k (drop lo cs) rest n1 in
    let n2 : length (take k (drop lo l)) ≡ k = ap length same ∙ length-take-le k (drop lo cs) n1 in
    ap (take k) p ∙ take_at (take k (drop lo l)) (drop k l) k n2 ∙ same

-- what `trim` ensures, of the cells cs in front of the words l
abbrev Trimmed : ℕ → ℕ → ℕ → List ℕ → Cut → List ℕ → List ℕ → Type 0
Trimmed e over under cs r l l1 =
    (r.hi ≡ kept e over cs) × (r.lo ≡ dropped e under cs) × (r.over ≡ over + sum (drop r.hi cs)) × (r.under ≡ under + sum (take r.lo cs))
    × (l1 ≡ take (r.hi - r.lo) (drop r.lo l) ++ drop (r.hi - r.lo) l)

-- ---- step

same_walked : {l l' : ℤ} {u u' x x' y y' z z' : ℕ} → l ≡ l' → u ≡ u' → x ≡ x' → y ≡ y' → z ≡ z'
    → ◌≡◌ {A = Walked} (record { lower = l; upper = u; over = x; under = y; rounded = z }) (record { lower = l'; upper = u'; over = x'; under = y'; rounded = z' })
same_walked p q r t v = λ i. record { lower = p i; upper = q i; over = r i; under = t i; rounded = v i }

module _ {a e : ℕ} {w : Walked} {words : List ℕ} (s : Steppable a e w words) where
  abbrev row : Row
  row = row_of w words

  abbrev cells : List ℕ
  cells = new_masses a row.masses

  -- the row after the step
  abbrev pub next : Row
  next = step_row a e row

  pub row_length : length row.masses ≡ w.upper - first_above w.lower
  unfolding row_of
  row_length = length-take-le (w.upper - first_above w.lower) words (omega (arith, s.room))

  pub order : first_above w.lower < w.upper
  order = omega (arith, row_length, s.sound.live)

  pub counted : Counted w.lower
  counted = (s.signed, omega (arith, order, s.early))

  pub ordered : Ordered w
  ordered = (s.signed, omega (arith, order))

  -- the words after `spread`: the cells stand in front
  module _ {n : ℕ} (n-is : n ≡ w.upper - first_above w.lower) {p1 : List ℕ}
      (spreads : p1 ≡ new_masses a (take n words) ++ drop (n + 1) words) where
    pub front : take (n + 1) p1 ≡ cells
    unfolding row_of
    front =
        let m : length (new_masses a (take n words)) ≡ n + 1 =
        omega (arith, cells_length (mass_up a) 0 (take n words), length-take-le n words (omega (arith, s.room))) in
        ap (take (n + 1)) spreads ∙ take_at (new_masses a (take n words)) (drop (n + 1) words) (n + 1) m
        ∙ ap (λ (i : ℕ). new_masses a (take i words)) n-is

    -- at most 769 of them are rounded
    pub few_rounded : roundings a (take n words) ≤ wide
    few_rounded =
        omega (arith, roundings_le a 0 (take n words), length-take-le n words (omega (arith, s.room)), s.narrow, order)

    -- what `trim` requires of them
    pub more : e + e < sum (take (n + 1) p1) + w.over + w.under
    unfolding row_of
    more = omega (arith, ap sum front, cells_full a s.threshold e s.half row s.sound, s.half)

    -- .. and after `trim`
    module _ {c : Cut} {p2 : List ℕ} (trims : Trimmed e w.over w.under (take (n + 1) p1) c p1 p2) where
      trims_cells : Trimmed e w.over w.under cells c p1 p2
      trims_cells = rw front at trims

      pub places_fit : (c.hi ≤ wide) × (c.lo ≤ wide)
      unfolding row_of
      places_fit =
          let k = keep a s.threshold e s.half row s.sound in
          let h : c.hi ≤ wide = omega (arith, trims_cells.0, k.within, cells_length (mass_up a) 0 row.masses, row_length, s.narrow) in
          (h, omega (arith, trims_cells.0, trims_cells.1, apart a s.threshold e s.half row s.sound))

      masses_front : take (length next.masses) p2 ≡ next.masses
      unfolding row_of step_row cut
      masses_front =
          let t = trims_cells in
          let k = keep a s.threshold e s.half row s.sound in
          let d = apart a s.threshold e s.half row s.sound in
          let rest = drop (n + 1) p1 in
          let m : length next.masses ≡ c.hi - c.lo = omega (arith, t.0, t.1, step_length a s.threshold e s.half row s.sound) in
          ap (λ (j : ℕ). take j p2) m
          ∙ shifted cells rest c.lo (c.hi - c.lo) (omega (arith, t.0, t.1, k.within, d))
          (sym (take-append-drop (n + 1) p1) ∙ ap (λ (x : List ℕ). x ++ rest) front) t.4
          ∙ rw (t.0, t.1)

      module _ {low : ℤ} (q : low ≡ below (first_above w.lower + c.lo)) {f : ℕ} (f-is : f ≡ first_above w.lower)
          {count : ℕ} (counts : count ≡ roundings a (take n words)) where
        abbrev walked : Walked
        walked = record { lower = to_z w32 (of_z w32 low); upper = f + c.hi; over = c.over; under = c.under; rounded = w.rounded + count }

        record_is : walked ≡ record_of next
        unfolding row_of record_of step_row cut
        record_is =
            let t = trims_cells in
            let fits = to_z-of_z w32 low (rw q (below_fits (first_above w.lower + c.lo) (omega (arith, counted.1, places_fit)))) in
            same_walked (fits ∙ q ∙ ap (λ (d : ℕ). below (first_above w.lower + d)) t.1)
            (omega (arith, t.0, step_upper a s.threshold e s.half row s.sound))
            (t.2 ∙ ap (λ (k : ℕ). w.over + sum (drop k cells)) t.0)
            (t.3 ∙ ap (λ (d : ℕ). w.under + sum (take d cells)) t.1)
            (ap (λ (x : ℕ). w.rounded + x) (counts ∙ ap (λ (i : ℕ). roundings a (take i words)) n-is))

        pub stepped : (walked ≡ record_of next) × (row_of walked p2 ≡ next)
        stepped = (record_is, ap (λ (r : Walked). row_of r p2) record_is ∙ row_front next p2 masses_front)

  pub next_fits : length next.masses ≤ wide
  unfolding row_of
  next_fits =
      let m = step_moves a s.threshold e s.half row s.sound in
      omega (arith, m.upper_slow, m.lower_rises, row_length, s.narrow)

  -- ---- the record r of that step

  module _ {r : Walked} (is : r ≡ record_of next) where
    lower_is : r.lower ≡ below next.first
    unfolding record_of
    lower_is = ap (λ (x : Walked). x.lower) is

    upper_is : r.upper ≡ upper next
    unfolding record_of
    upper_is = ap (λ (x : Walked). x.upper) is

    first_next : first_above r.lower ≡ next.first
    first_next = ap first_above lower_is ∙ above_below next.first

    pub next_counted : Counted r.lower
    unfolding row_of
    next_counted =
        let m = step_moves a s.threshold e s.half row s.sound in
        let live = (step_sound a s.threshold e s.half row s.sound).live in
        (lower_is ∙ ap below (sym first_next), omega (arith, first_next, m.upper_slow, live, row_length, order, s.early))

    pub next_ordered : Ordered r
    next_ordered = (next_counted.0, omega (arith, first_next, upper_is))

    module _ {k : ℕ} (k-is : k ≡ r.upper - first_above r.lower) where
      pub live_is : k ≡ length next.masses
      live_is = omega (arith, first_next, upper_is)

      -- its words, cleared behind the masses
      pub cleared : (l l1 : List ℕ) → row_of r l ≡ next → length l ≡ wide
          → l1 ≡ take k l ++ replicate (length l - k) 0 → l1 ≡ padded next.masses
      unfolding row_of padded
      cleared l l1 same size p =
          let m : take k l ≡ next.masses = rw k-is (ap (λ (x : Row). x.masses) same) in
          rw (p, m, size, live_is)

-- What one step does to any sound row, and what therefore holds of the walk's rows at every step.
use Rattle.std.proofs.Common.{◌≡◌, ℕ, zero, suc, ◌+◌, ◌-◌, ◌*◌, ◌<◌, ◌≤◌, true, List, length, drop, refl, arith, length-drop, length-take-le}
use Rattle.walk.specs.Numbers.{sum, all_up_to}
use Rattle.walk.specs.Units.{M, million, wide}
use Rattle.walk.specs.Spending.{IsSpending}
use Rattle.walk.specs.Mass.{mass_up}
use Rattle.walk.specs.Row.{Row, upper, total, start_row, new_masses, roundings, kept, dropped, cut, step_row, rows, Sound, SoundAt}
use Rattle.walk.specs.Facts.{Moves}
use Rattle.walk.proofs.Tests.{le?_complete}
use Rattle.walk.proofs.Lists.{sum_three, all_take, all_drop}
use Rattle.walk.proofs.Cells.{cells_length, mass_kept, mass_added, roundings_le, cells_small}
use Rattle.walk.proofs.Cuts.{Keeps, keeps, Drops, drops, cut_order}

-- more may be spent
pub sound_more : (e e' : ℕ) (r : Row) → e ≤ e' → Sound e r → Sound e' r
sound_more e e' r h s =
    record { live = s.live; over_fits = omega (arith, s.over_fits); under_fits = omega (arith, s.under_fits); full = s.full }

module _ (a : ℕ) (threshold : a ≤ million) (e : ℕ) (half : e + e < M) (r : Row) (s : Sound e r) where
  abbrev cells : List ℕ
  cells = new_masses a r.masses

  abbrev d : ℕ
  d = dropped e r.under cells

  abbrev k : ℕ
  k = kept e r.over cells

  pub keep : Keeps e r.over cells k
  keep = keeps e r.over s.over_fits cells

  pub drop_low : Drops e r.under cells d
  drop_low = drops e r.under s.under_fits cells

  -- the cells hold no less than the row
  pub cells_full : M ≤ sum cells + r.over + r.under
  cells_full = omega (arith, mass_kept a threshold r.masses, s.full)

  pub apart : d < k
  apart = cut_order e r.over r.under cells k d (omega (arith, cells_full)) keep drop_low

  pub step_first : (step_row a e r).first ≡ r.first + d
  unfolding step_row cut
  step_first = refl

  pub step_length : length (step_row a e r).masses ≡ k - d
  unfolding step_row cut
  step_length = length-take-le (k - d) (drop d cells) (omega (arith, length-drop d cells, keep.within))

  pub step_upper : upper (step_row a e r) ≡ r.first + k
  step_upper = omega (arith, step_first, step_length, apart)

  step_total : total (step_row a e r) ≡ sum cells + r.over + r.under
  unfolding step_row cut
  step_total = omega (arith, sum_three cells d k (omega (arith, apart)))

  step_over : (step_row a e r).over ≤ e
  unfolding step_row cut
  step_over = omega (arith, keep.fits)

  step_under : (step_row a e r).under ≤ e
  unfolding step_row cut
  step_under = omega (arith, drop_low.fits)

  step_counts : (step_row a e r).rounded ≡ r.rounded + roundings a r.masses
  unfolding step_row cut
  step_counts = refl

  step_small : (b : ℕ) → all_up_to b r.masses ≡ true → all_up_to b (step_row a e r).masses ≡ true
  unfolding step_row cut
  step_small b h = all_take b (drop d cells) (k - d) (all_drop b cells d (cells_small a threshold b r.masses h))

  pub step_sound : Sound e (step_row a e r)
  step_sound = record {
    live = omega (arith, step_length, apart);
    over_fits = step_over;
    under_fits = step_under;
    full = omega (arith, step_total, cells_full);
  }

  pub step_moves : Moves a r (step_row a e r)
  step_moves = record {
    upper_slow = omega (arith, step_upper, keep.within, cells_length (mass_up a) 0 r.masses);
    lower_rises = omega (arith, step_first);
    counts = step_counts;
    adds = omega (arith, step_total, mass_added a threshold r.masses);
    few = roundings_le a 0 r.masses;
    none_larger = step_small;
  }

-- ---- the rows of the walk

pub start_sound : (E : ℕ → ℕ) → SoundAt E 0 start_row
unfolding start_row
start_sound E =
    record { sound = record { live = omega arith; over_fits = omega arith; under_fits = omega arith; full = omega arith }; top = omega arith }

module _ (a : ℕ) (threshold : a ≤ million) (E : ℕ → ℕ) (spends : IsSpending E) where
  -- one step more, of any row that is sound after n steps
  module _ (n : ℕ) (r : Row) (s : SoundAt E n r) where
    pub allowed_next : Sound (E (suc n)) r
    allowed_next = sound_more (E n) (E (suc n)) r (spends.rises n) s.sound

    pub next_moves : Moves a r (step_row a (E (suc n)) r)
    next_moves = step_moves a threshold (E (suc n)) (spends.half (suc n)) r allowed_next

    pub next_sound : SoundAt E (suc n) (step_row a (E (suc n)) r)
    next_sound = record {
      sound = step_sound a threshold (E (suc n)) (spends.half (suc n)) r allowed_next;
      top = omega (arith, next_moves.upper_slow, s.top);
    }

  pub rows_sound : (n : ℕ) → SoundAt E n (rows a E n)
  unfolding rows
  rows_sound zero = start_sound E
  rows_sound (suc n) = next_sound n (rows a E n) (rows_sound n)

  pub rows_move : (n : ℕ) → Moves a (rows a E n) (rows a E (suc n))
  unfolding rows
  rows_move n = next_moves n (rows a E n) (rows_sound n)

  -- live mass plus spent masses: at most one unit over M for each cell that was really rounded
  pub rows-total : (n : ℕ) → total (rows a E n) ≤ M + (rows a E n).rounded
  unfolding rows start_row
  rows-total zero = omega arith
  rows-total (suc n) = omega (arith, rows-total n, (rows_move n).adds, (rows_move n).counts)

  -- no mass of the walk is over the whole
  pub rows_small : (n : ℕ) → all_up_to M (rows a E n).masses ≡ true
  unfolding rows start_row
  rows_small zero = rw (le?_complete M M (omega arith))
  rows_small (suc n) = (rows_move n).none_larger M (rows_small n)

  -- ---- rows that were not wide before step n

  module _ (n : ℕ) (none : (t : ℕ) → t < n → ¬ (length (rows a E t).masses ≡ wide)) where
    pub rows_narrow : (t : ℕ) → t < n → length (rows a E t).masses < wide
    unfolding rows start_row wide
    rows_narrow zero l = omega arith
    rows_narrow (suc t) l =
        let m = rows_move t in
        omega (arith, rows_narrow t (omega arith), m.upper_slow, m.lower_rises, none (suc t) l)

    pub rows_fit : length (rows a E n).masses ≤ wide
    unfolding rows start_row wide
    rows_fit = go n refl
      where
        go : (m : ℕ) → m ≡ n → length (rows a E m).masses ≤ wide
        go zero e = omega arith
        go (suc t) e =
            let m = rows_move t in
            omega (arith, rows_narrow t (omega arith), m.upper_slow, m.lower_rises)

    rounded_to : (m : ℕ) → m ≤ n → (rows a E m).rounded ≤ wide * m
    unfolding rows start_row
    rounded_to zero l = omega arith
    rounded_to (suc m) l =
        omega (arith, rounded_to m (omega arith), (rows_move m).counts, (rows_move m).few, rows_narrow m l)

    pub rounded_few : (rows a E n).rounded ≤ wide * n
    rounded_few = rounded_to n (omega arith)

-- What refusal 11 leaves: a row that may walk on; and it never refuses a row of the walk.
use Rattle.std.proofs.Common.{◌≡◌, ℕ, suc, ◌+◌, ◌-◌, ◌<◌, ◌≤◌, true, false, ◌↔◌, List, length, take, replicate, ℤ, pos, negsuc, ◌-ℤ◌, sym, refl, ap, ◌∙◌, arith, length-append, length-take-le, take_at, le-leb, leb-true}
use lib.ListN.{length-replicate}
use lib.Signed.{le_z, lt_z}
use Rattle.walk.specs.Numbers.{le?, lt?, all_up_to}
use Rattle.walk.specs.Units.{M, million, wide, mass_limit, horizon_limit}
use Rattle.walk.specs.Spending.{IsSpending}
use Rattle.walk.specs.Walk.{below, wide?}
use Rattle.walk.specs.Row.{Row, upper, total, rows, SoundAt}
use Rattle.walk.specs.Record.{first_above, row_of, record_of, is_wide, padded}
use Rattle.walk.specs.Soundness.{rounded_fits, boundaries_sound, words_sound, Steppable}
use Rattle.walk.specs.declared.Walked.{Walked}
use Rattle.walk.proofs.Tests.{and_true, le?_sound, le?_complete}
use Rattle.walk.proofs.Boundaries.{apart_below, wide_fails, apart_order, above_below, below_above, below_least, over_below}
use Rattle.walk.proofs.Lists.{all_more}
use Rattle.walk.proofs.RowSteps.{allowed_next, rows_sound, rows_small, rows_fit, rounded_few}

-- ---- a row and its record

pub padded-length : (masses : List ℕ) → length masses ≤ wide → length (padded masses) ≡ wide
unfolding padded
padded-length masses h =
    omega (arith, length-append masses (replicate (wide - length masses) 0), length-replicate {A = ℕ} (wide - length masses) 0)

-- a row's record, and words with its masses in front, give it back
pub row_front : (r : Row) (words : List ℕ) → take (length r.masses) words ≡ r.masses → row_of (record_of r) words ≡ r
unfolding row_of record_of
row_front r words h = λ i. record { first = above_below r.first i; masses = masses_back i; over = r.over; under = r.under; rounded = r.rounded }
  where
    masses_back : take (upper r - first_above (below r.first)) words ≡ r.masses
    masses_back = let n : upper r - first_above (below r.first) ≡ length r.masses = omega (arith, above_below r.first) in rw n h

pub row_back : (r : Row) → row_of (record_of r) (padded r.masses) ≡ r
unfolding padded
row_back r = row_front r (padded r.masses) (take_at r.masses (replicate (wide - length r.masses) 0) (length r.masses) refl)

-- a row's record is wide exactly when the row has 769 live counts
pub narrow_record : (r : Row) → (is_wide (record_of r) ≡ false) ↔ (¬ (length r.masses ≡ wide))
unfolding is_wide record_of
narrow_record r =
    let w = wide_fails (upper r) r.first (omega arith) in
    (λ e h. w.0 e (omega arith), λ n. w.1 (λ e. n (omega arith)))

-- ---- what the checks on the boundaries say

-- the checks as plain numbers, where the record's lower boundary is just below f
pub record Between (e n s f : ℕ) (w : Walked) : Type 0 where
  pub signed : w.lower ≡ below f
  pub top : w.upper ≤ suc n
  pub order : f < w.upper
  pub fits : w.upper ≤ f + wide
  pub from : f ≤ s
  pub to : s < w.upper
  pub over_fits : w.over ≤ e
  pub under_fits : w.under ≤ e

module _ (e n s : ℕ) (w : Walked) where
  apart : (f : ℕ) → w.lower ≡ below f → f ≤ w.upper → pos w.upper -ℤ w.lower ≡ pos (suc (w.upper - f))
  apart f z h = ap (λ (y : ℤ). pos w.upper -ℤ y) z ∙ apart_below w.upper f h

  pub boundaries_say : boundaries_sound e n s w ≡ true → Between e n s (first_above w.lower) w
  unfolding boundaries_sound
  boundaries_say h =
      let a1 = and_true (le_z (negsuc 0) w.lower) _ h in
      let a2 = and_true (le? w.upper (suc n)) _ a1.1 in
      let a3 = and_true (le_z (pos 2) (pos w.upper -ℤ w.lower)) _ a2.1 in
      let a4 = and_true (le_z (pos w.upper -ℤ w.lower) (pos (suc wide))) _ a3.1 in
      let a5 = and_true (lt_z w.lower (pos s)) _ a4.1 in
      let a6 = and_true (lt? s w.upper) _ a5.1 in
      let a7 = and_true (le? w.over e) _ a6.1 in
      let f : ℕ = first_above w.lower in
      let z : w.lower ≡ below f = below_above w.lower a1.0 in
      let o : f < w.upper = apart_order w.upper f (ap (λ (y : ℤ). le_z (pos 2) (pos w.upper -ℤ y)) (sym z) ∙ a3.0) in
      let d : pos w.upper -ℤ w.lower ≡ pos (suc (w.upper - f)) = apart f z (omega arith) in
      record {
        signed = z;
        top = le?_sound w.upper (suc n) a2.0;
        order = o;
        fits = omega (arith, leb-true (suc (w.upper - f)) (suc wide) (ap (λ (y : ℤ). le_z y (pos (suc wide))) (sym d) ∙ a4.0));
        from = le?_sound f s (sym (over_below f s) ∙ ap (λ (y : ℤ). lt_z y (pos s)) (sym z) ∙ a5.0);
        to = le?_sound (suc s) w.upper a6.0;
        over_fits = le?_sound w.over e a7.0;
        under_fits = le?_sound w.under e a7.1;
      }

  pub boundaries_hold : (f : ℕ) → Between e n s f w → boundaries_sound e n s w ≡ true
  unfolding boundaries_sound
  boundaries_hold f b =
      let d : pos w.upper -ℤ w.lower ≡ pos (suc (w.upper - f)) = apart f b.signed (omega (arith, b.order)) in
      cc (
        ap (le_z (negsuc 0)) b.signed ∙ below_least f,
        le?_complete w.upper (suc n) b.top,
        ap (le_z (pos 2)) d ∙ le-leb 2 (suc (w.upper - f)) (omega (arith, b.order)),
        ap (λ (y : ℤ). le_z y (pos (suc wide))) d ∙ le-leb (suc (w.upper - f)) (suc wide) (omega (arith, b.fits)),
        ap (λ (y : ℤ). lt_z y (pos s)) b.signed ∙ over_below f s ∙ le?_complete f s b.from,
        le?_complete (suc s) w.upper b.to,
        le?_complete w.over e b.over_fits,
        le?_complete w.under e b.under_fits,
      )

-- ---- refusal 11 of an open threshold, but for its number of masses rounded

abbrev pub IsSound : ℕ → ℕ → ℕ → Walked → List ℕ → Type 0
IsSound e n s w words = (boundaries_sound e n s w ≡ true) × (words_sound w words ≡ true)

module _ (e n s : ℕ) (w : Walked) where
  -- a record that is not wide has fewer than 769 live counts
  pub few_live : boundaries_sound e n s w ≡ true → is_wide w ≡ false → w.upper - first_above w.lower < wide
  unfolding is_wide
  few_live h thin =
      let b = boundaries_say e n s w h in
      let f : ℕ = first_above w.lower in
      let apart = (wide_fails w.upper f (omega (arith, b.order))).0 (ap (wide? w.upper) (sym b.signed) ∙ thin) in
      omega (arith, b.fits, apart)

-- what it leaves: the record and the words hold a row that is sound after n steps and fits its words
pub record Checked (E : ℕ → ℕ) (n : ℕ) (w : Walked) (words : List ℕ) : Type 0 where
  pub signed : w.lower ≡ below (first_above w.lower)
  pub upper_is : w.upper ≡ upper (row_of w words)
  pub fits : length (row_of w words).masses ≤ wide
  pub small : all_up_to mass_limit (row_of w words).masses ≡ true
  pub sound : SoundAt E n (row_of w words)

-- .. where there is a word for each live count
module _ (E : ℕ → ℕ) (n s : ℕ) (w : Walked) (words : List ℕ) (held : w.upper - first_above w.lower ≤ length words) where
  pub checked : IsSound (E n) n s w words → Checked E n w words
  unfolding words_sound row_of wide
  checked h =
      let a = and_true (all_up_to mass_limit (row_of w words).masses) _ h.1 in
      let b = boundaries_say (E n) n s w h.0 in
      let l : length (take (w.upper - first_above w.lower) words) ≡ w.upper - first_above w.lower =
      length-take-le (w.upper - first_above w.lower) words held in
      record {
        signed = b.signed;
        upper_is = omega (arith, b.order);
        fits = omega (arith, b.fits);
        small = a.0;
        sound = record {
          sound = record { live = omega (arith, b.order); over_fits = b.over_fits; under_fits = b.under_fits; full = le?_sound M _ a.1 };
          top = omega (arith, b.top, b.order);
        };
      }

  pub narrow : IsSound (E n) n s w words → is_wide w ≡ false → length (row_of w words).masses < wide
  unfolding row_of
  narrow h thin = omega (arith, (checked h).upper_is, few_live (E n) n s w h.0 thin)

-- .. and a word more: what a step asks, of a record that is not wide
module _ (E : ℕ → ℕ) (n s : ℕ) (w : Walked) (words : List ℕ) (room : w.upper - first_above w.lower < length words) where
  pub steppable : (a : ℕ) → a ≤ million → IsSpending E → n ≤ horizon_limit → is_wide w ≡ false → rounded_fits n w ≡ true
      → IsSound (E n) n s w words → Steppable a (E (suc n)) w words
  unfolding rounded_fits row_of wide
  steppable a threshold spends early thin few h =
      let c = checked E n s w words (omega arith) h in
      record {
        threshold = threshold;
        half = spends.half (suc n);
        room = room;
        signed = c.signed;
        narrow = omega (arith, few_live (E n) n s w h.0 thin);
        early = omega (arith, c.upper_is, c.sound.top);
        rounded_holds = omega (arith, le?_sound w.rounded _ few);
        small = c.small;
        sound = allowed_next a threshold E spends n (row_of w words) c.sound;
      }

-- ---- refusal 11 refuses no sound row that fits its words

pub row_passes : (E : ℕ → ℕ) (n s : ℕ) (r : Row) → SoundAt E n r → length r.masses ≤ wide → all_up_to mass_limit r.masses ≡ true
    → r.first ≤ s → s < upper r → IsSound (E n) n s (record_of r) (padded r.masses)
unfolding words_sound record_of wide
row_passes E n s r sound fits small from to = (
  boundaries_hold (E n) n s (record_of r) r.first between,
  rw (row_back r) (cc (small, le?_complete M (total r) sound.sound.full)),
)
  where
    between : Between (E n) n s r.first (record_of r)
    between = record {
      signed = refl;
      top = sound.top;
      order = omega (arith, sound.sound.live);
      fits = omega arith;
      from = from;
      to = to;
      over_fits = sound.sound.over_fits;
      under_fits = sound.sound.under_fits;
    }

-- .. and so none of the walk, as long as no step before was wide
pub walk_passes : (a : ℕ) → a ≤ million → (E : ℕ → ℕ) → IsSpending E → (n s : ℕ) → ((t : ℕ) → t < n → ¬ (length (rows a E t).masses ≡ wide))
    → (rows a E n).first ≤ s → s < upper (rows a E n) → IsSound (E n) n s (record_of (rows a E n)) (padded (rows a E n).masses)
unfolding M mass_limit
walk_passes a threshold E spends n s none from to =
    row_passes E n s (rows a E n) (rows_sound a threshold E spends n) (rows_fit a threshold E spends n none)
    (all_more M mass_limit (rows a E n).masses (omega arith) (rows_small a threshold E spends n)) from to

-- .. nor its number, after as many draws or more
pub rounded_passes : (a : ℕ) → a ≤ million → (E : ℕ → ℕ) → IsSpending E → (t n : ℕ) → t ≤ n
    → ((u : ℕ) → u < t → ¬ (length (rows a E u).masses ≡ wide)) → rounded_fits n (record_of (rows a E t)) ≡ true
unfolding rounded_fits record_of wide
rounded_passes a threshold E spends t n l none = le?_complete _ _ (omega (arith, rounded_few a threshold E spends t none))

-- What `bucket_test` cites in place of the definitions: the walk's rows and marks, one step more.
use Rattle.std.proofs.Common.{◌≡◌, ℕ, zero, suc, ◌+◌, ◌-◌, ◌<◌, ◌≤◌, Bool, true, false, ◌⊎◌, List, [], ◌∷◌, ◌++◌, length, get_or, replicate, pos, sym, refl, ap, ◌∙◌, inl, inr, eq-or-lt_of_le, arith, length-append}
use lib.Signed.{le_z}
use Rattle.walk.specs.Numbers.{le?, lt?, eq_z?}
use Rattle.walk.specs.Units.{million, wide}
use Rattle.walk.specs.Spending.{IsSpending}
use Rattle.walk.specs.Walk.{Walk, below, lower, first_at, upper_at, wide?, NoWideBefore}
use Rattle.walk.specs.Row.{Row, upper, start_row, step_row, rows}
use Rattle.walk.specs.Strings.{Draws, ones, Side, Upper, Lower, Reaches, judged, verdict, or_else, mark, settled, mark_open}
use Rattle.walk.specs.Record.{record_of, is_wide, padded, start_walked, start_part}
use Rattle.walk.specs.Facts.{Same}
use Rattle.walk.specs.declared.Mark.TheVariants.{Open, Above, AtMost}
use Rattle.walk.specs.declared.Mark.{Mark}
use Rattle.walk.proofs.Tests.{test, Le?, le, gt, clash, le?_complete, le?_fails}
use Rattle.walk.proofs.Boundaries.{under_below}
use Rattle.walk.proofs.Agreement.{at_add, same, first_at_lem, upper_at_lem, not_wide}

-- step 0, as the code holds it
pub start_walked_lem : record_of start_row ≡ start_walked
unfolding start_walked
start_walked_lem = refl

pub start_words_lem : padded start_row.masses ≡ start_part
unfolding start_part
start_words_lem = refl

-- step 0 is not wide
pub start_not_wide : is_wide start_walked ≡ false
unfolding is_wide wide? wide start_walked record_of start_row below eq_z?
start_not_wide = refl

-- words after the live counts are zero
pub padded_word : (masses : List ℕ) (j : ℕ) → get_or (padded masses) j 0 ≡ get_or masses j 0
unfolding padded
padded_word masses j = go masses (wide - length masses) j
  where
    go : (xs : List ℕ) (k j : ℕ) → get_or (xs ++ replicate k 0) j 0 ≡ get_or xs j 0
    go [] zero j = refl
    go [] (suc k) zero = refl
    go [] (suc k) (suc j) = go [] k j
    go (x ∷ xs) k zero = refl
    go (x ∷ xs) k (suc j) = go xs k j

-- ---- a row that is a walk, by count: its record and its words as the rules name them

module _ {w : Walk} {r : Row} (s : Same w r) where
  -- the record holds the walk's boundaries, spent masses and number of masses rounded
  pub record_same : ((record_of r).lower ≡ lower w) × ((record_of r).upper ≡ w.upper)
      × ((record_of r).over ≡ w.over) × ((record_of r).under ≡ w.under) × ((record_of r).rounded ≡ w.rounded)
  unfolding record_of lower
  record_same = (rw s.first_same, sym s.upper_same, sym s.over_same, sym s.under_same, sym s.rounded_same)

  -- word j is the mass at count first + j
  pub word_same : (j : ℕ) → w.mass (w.first + j) ≡ get_or r.masses j 0
  word_same j = rw s.first_same (s.mass_same (r.first + j) ∙ at_add r.first r.masses j)

  -- where the row's words are 769, each live count has one
  pub fits_same : length (padded r.masses) ≡ wide → w.upper ≤ w.first + wide
  unfolding padded
  fits_same size = omega (arith, s.first_same, s.upper_same, length-append r.masses (replicate (wide - length r.masses) 0))

  -- S ones stand to the record's boundaries as to the walk's
  pub judged_same : (t S : ℕ)
      → judged t (le? (record_of r).upper S) (le_z (pos S) (record_of r).lower) ≡ judged t (le? w.upper S) (lt? S w.first)
  unfolding record_of
  judged_same t S = rw (under_below S r.first, s.first_same, s.upper_same)

-- between boundaries in order, S ones settle a threshold on the side that they reach; where they reach none it stays open
module _ (t S first upper : ℕ) where
  pub judged_on : first ≤ upper → (side : Side) → Reaches side first upper S → judged t (le? upper S) (lt? S first) ≡ settled side t
  judged_on o Upper h = rw (le?_complete upper S h)
  judged_on o Lower h = rw (le?_fails upper S (omega arith), le?_complete (suc S) first h)

  pub judged_open : ((side : Side) → ¬ (Reaches side first upper S)) → judged t (le? upper S) (lt? S first) ≡ Open
  judged_open none = rw (le?_fails upper S (omega (arith, none Upper)), le?_fails (suc S) first (omega (arith, none Lower)))

module _ (a : ℕ) (E : ℕ → ℕ) where
  pub rows-zero : rows a E 0 ≡ start_row
  unfolding rows
  rows-zero = refl

  pub rows-suc : (n : ℕ) → rows a E (suc n) ≡ step_row a (E (suc n)) (rows a E n)
  unfolding rows
  rows-suc n = refl

  -- the mark that this walk gives the draws s
  abbrev pub mark_of : Draws → Mark
  mark_of s = mark (first_at a E) (upper_at a E) s

  -- how S ones stand at step t
  abbrev pub verdict_of : ℕ → ℕ → Mark
  verdict_of t S = verdict (first_at a E) (upper_at a E) t S

  pub mark_nil : mark_of [] ≡ Open
  unfolding mark
  mark_nil = refl

  pub mark_cons : (b : Bool) (s : Draws) → mark_of (b ∷ s) ≡ or_else (mark_of s) (verdict_of (suc (length s)) (ones (b ∷ s)))
  unfolding mark
  mark_cons b s = refl

  -- no step is before step 0
  pub narrow_start : NoWideBefore a E 0
  unfolding NoWideBefore
  narrow_start t l = absurd (omega arith)

  module _ (threshold : a ≤ million) (spends : IsSpending E) where
    pub verdict_row : (t S : ℕ) → verdict_of t S ≡ judged t (le? (upper (rows a E t)) S) (lt? S (rows a E t).first)
    unfolding verdict
    verdict_row t S = rw (first_at_lem a threshold E spends t, upper_at_lem a threshold E spends t)

    -- the same by the boundaries of a record
    pub verdict_record : (t S : ℕ) → judged t (le? (record_of (rows a E t)).upper S) (le_z (pos S) (record_of (rows a E t)).lower) ≡ verdict_of t S
    unfolding verdict first_at upper_at
    verdict_record t S = judged_same (same a threshold E spends t) t S

    -- an open mark: the ones lie strictly between the boundaries
    abbrev Inside : ℕ → ℕ → Type 0
    Inside t S = ((rows a E t).first ≤ S) × (S < upper (rows a E t))

    inside : (t S : ℕ) → verdict_of t S ≡ Open → Inside t S
    inside t S e =
        go (test (upper (rows a E t)) S) (test (suc S) (rows a E t).first) (sym (verdict_row t S) ∙ e)
      where
        go : {o u : Bool} → Le? (upper (rows a E t)) S o → Le? (suc S) (rows a E t).first u → judged t o u ≡ Open → Inside t S
        go (le h) k e = let z : true ≡ false = cc (ap mark_open e) in clash z
        go (gt h) (le k) e = let z : true ≡ false = cc (ap mark_open e) in clash z
        go (gt h) (gt k) e = (omega arith, h)

    pub open_inside : (s : Draws) → mark_of s ≡ Open → ((rows a E (length s)).first ≤ ones s) × (ones s < upper (rows a E (length s)))
    unfolding start_row
    open_inside [] e = rw (rows-zero) (omega arith, omega arith)
    open_inside (b ∷ s) e = go (mark_of s) (sym (mark_cons b s) ∙ e)
      where
        go : (m : Mark) → or_else m (verdict_of (suc (length s)) (ones (b ∷ s))) ≡ Open → Inside (suc (length s)) (ones (b ∷ s))
        go Open f = inside (suc (length s)) (ones (b ∷ s)) f
        go (Above t) f = let z : true ≡ false = cc (ap mark_open f) in clash z
        go (AtMost t) f = let z : true ≡ false = cc (ap mark_open f) in clash z

    -- one more step that is not wide
    pub narrow_next : (n : ℕ) → NoWideBefore a E n → ¬ (length (rows a E n).masses ≡ wide) → NoWideBefore a E (suc n)
    narrow_next n none here = (not_wide a threshold E spends (suc n)).1 (λ t l. go t (eq-or-lt_of_le l))
      where
        go : (t : ℕ) → (suc t ≡ suc n) ⊎ (suc t < suc n) → ¬ (length (rows a E t).masses ≡ wide)
        go t (inl q) e = let r : t ≡ n = omega arith in here (rw r at e)
        go t (inr l) e = (not_wide a threshold E spends n).0 none t (omega arith) e

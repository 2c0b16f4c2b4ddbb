-- A loop that takes each record and each part in its turn, in plain variables.
use mathlib.Core.Path.{◌≡◌, sym, ap, ◌∙◌}
use mathlib.Core.List.{List, ◌++◌, append_assoc, append-nil}
use Prim.Native.Nat.{ℕ, ◌+◌, ◌*◌, ◌-◌, ◌≤◌, ◌<◌}
use native.Mathlib.Nat.{mul-zero, mul-suc, mul-le-mul_left}
use native.Mathlib.Numerals.{add-one}
use native.Mathlib.Omega.{arith}
use lib.ListN.{length, take, drop, set, get_or, length-append, length-drop, drop_of_length-le, get_or-eq_default}
use lib.Seq.{length-take-le, take_at, drop_at, drop-drop}
use Rattle.walk.specs.Units.{wide}
use Rattle.walk.specs.Walk.{Walk}
use Rattle.walk.specs.Row.{Row}
use Rattle.walk.specs.Record.{row_of, record_of, padded}
use Rattle.walk.specs.Facts.{Same}
use Rattle.walk.specs.declared.Walked.{Walked}
use Rattle.walk.proofs.SoundnessLaws.{row_back}
use Rattle.walk.proofs.RecordLaws.{padded_word, record_same, word_same, fits_same}
use Rattle.plan.specs.Places.{over_to, join_to}
use Rattle.bucket_test.specs.Words.{part_at, Stands}
use Rattle.bucket_test.specs.Turn.{turn_record, turn_part, MayTurn}
use Rattle.bucket_test.specs.declared.Threshold.{Threshold}
use Rattle.plan.proofs.PlaceLists.{over_now, over_put}

-- ---- records: the first i have had their turn

module _ {A : Type 0} (f : ℕ → A → A) (xs xs' : List A) (i : ℕ) (is : xs' ≡ over_to i f xs) (d : A) where
  pub record_now : get_or xs' i d ≡ get_or xs i d
  record_now = rw is (over_now i f xs d)

  pub record_put : (v : A) → v ≡ f i (get_or xs i d) → set xs' i v ≡ over_to (i + 1) f xs
  record_put v e = rw (is, e, add-one i) (over_put i f xs d)

-- ---- words: the first i parts have been written, each by g of its place

pub part_length : (ws : List ℕ) (n i : ℕ) → length ws ≡ wide * n → i < n → length (part_at i ws) ≡ wide
unfolding part_at
part_length ws n i e l =
    length-take-le wide (drop (wide * i) ws) (omega (arith, length-drop (wide * i) ws, mul-le-mul_left wide l, mul-suc wide i))

-- part i as code lends it
pub part_lent : (i : ℕ) (ws : List ℕ) → take (769 * i + 769 - 769 * i) (drop (769 * i) ws) ≡ part_at i ws
unfolding part_at wide
part_lent i ws = let n : 769 * i + 769 - 769 * i ≡ 769 = omega arith in rw n

module _ (g : ℕ → List ℕ) (ws : List ℕ) where
  pub words_none : ws ≡ join_to 0 g ++ drop (wide * 0) ws
  unfolding join_to
  words_none = rw (mul-zero wide)

  pub words_all : (n i : ℕ) → length ws ≡ wide * n → i ≡ n → join_to i g ++ drop (wide * i) ws ≡ join_to n g
  words_all n i e h = rw (h, drop_of_length-le ws {i = wide * n} (omega arith), append-nil)

  module _ (i : ℕ) (room : 769 * i + 769 ≤ length ws) (ws' : List ℕ) (same : length ws' ≡ length ws) (is : ws' ≡ join_to i g ++ drop (wide * i) ws) where
    size : length (join_to i g) ≡ wide * i
    unfolding wide
    size = omega (arith, ap length is, length-append (join_to i g) (drop (wide * i) ws), length-drop (wide * i) ws)

    pub part_now_lem : take (769 * i + 769 - 769 * i) (drop (769 * i) ws') ≡ part_at i ws
    unfolding part_at
    part_now_lem = part_lent i ws' ∙ rw (is, drop_at (join_to i g) (drop (wide * i) ws) (wide * i) size)

    pub part_put : (q : List ℕ) → q ≡ g i
        → take (769 * i) ws' ++ (q ++ drop (769 * i + 769 - 769 * i) (drop (769 * i) ws')) ≡ join_to (i + 1) g ++ drop (wide * (i + 1)) ws
    unfolding join_to wide
    part_put q e =
        let n : 769 * i + 769 - 769 * i ≡ 769 = omega arith in
        rw (
          n,
          is,
          e,
          add-one i,
          take_at (join_to i g) (drop (769 * i) ws) (769 * i) size,
          drop_at (join_to i g) (drop (769 * i) ws) (769 * i) size,
          drop-drop 769 (769 * i) ws,
          mul-suc 769 i,
        )
        (sym (append_assoc (join_to i g) (g i) (drop (769 * i + 769) ws)))

-- ---- a turn of the spending, the record and the part that code took, which are those that the definition names

module _ (a n ones : ℕ) {e e' : ℕ} {t t' : Threshold} {part part' : List ℕ} (p : e ≡ e') (q : t ≡ t') (r : part ≡ part') where
  pub may_turn : MayTurn a e' t'.mark t' part' → MayTurn a e t.mark t part
  may_turn h = rw (p, q, r) h

  pub same_record : {u : Threshold} → u ≡ turn_record a e n ones t.mark t part → u ≡ turn_record a e' n ones t'.mark t' part'
  same_record h = h ∙ rw (p, q, r)

  pub same_part : {l : List ℕ} → l ≡ turn_part a e n ones t.mark t part → l ≡ turn_part a e' n ones t'.mark t' part'
  same_part h = h ∙ rw (p, q, r)

-- ---- a record w of the row r, and words with the row's masses in front

pub front_same : (w : Walked) (r : Row) (words : List ℕ) → w ≡ record_of r → row_of w words ≡ r → row_of w words ≡ row_of w (padded r.masses)
front_same w r words is same = same ∙ sym (row_back r) ∙ ap (λ (x : Walked). row_of x (padded r.masses)) (sym is)

-- ---- a row that is the walk w: its record and its padded masses stand at w

pub stands : {w : Walk} {r : Row} → Same w r → length (padded r.masses) ≡ wide → Stands w (record_of r) (padded r.masses)
stands {w} {r} s size =
    let e = record_same s in
    record {
      lower_is = e.0;
      upper_is = e.1;
      over_is = e.2;
      under_is = e.3;
      rounded_is = e.4;
      size = size;
      fits = fits_same s size;
      masses = λ j l. padded_word r.masses j ∙ sym (word_same s j);
      zeros = λ j l. padded_word r.masses j ∙ get_or-eq_default r.masses 0 (omega (arith, s));
    }

-- Little-endian numbers: what is written is read, what is read is written, and fields of joined and cut lists (specs/Little).
use mathlib.Core.Path.{◌≡◌, refl, sym, ap, ap₂, ◌∙◌}
use mathlib.Core.List.{List, [], ◌∷◌, ◌++◌, append-nil}
use mathlib.Core.Logic.{⊎_elim}
use Prim.Native.Nat.{ℕ, zero, suc, ◌+◌, ◌*◌, ◌/◌, ◌%◌, ◌<◌, ◌≤◌, ◌^◌}
use native.Mathlib.Nat.{mod-add-div, mod-eq_of_lt, div-lt_iff_lt-mul, add-mul-div_left, div-eq_of_lt, add-mul-mod_self_left}
use native.Mathlib.Nat.{pow-suc, pow-succ', mul_assoc}
use native.Mathlib.Omega.{arith}
use lib.ListN.{length, take, drop, get_or, length-take, length-drop, take-append-drop, get_or-eq_default}
use lib.Seq.{drop-cons, get_or-take, get_or-drop, length-take-le, take-add, drop-drop, take-append-le, drop-append-le, drop-append-add, take_at}
use Rattle.plan.proofs.PlaceLaws.{le_or_lt}
use Rattle.little.specs.Little.{to_le, from_le, field, Bytes}

pub to_length : (width v : ℕ) → length (to_le width v) ≡ width
unfolding to_le
to_length zero v = refl
to_length (suc width) v = ap suc (to_length width (v / 256))

-- what is written is read
pub from_to : (width v : ℕ) → v < 256 ^ width → from_le (to_le width v) ≡ v
unfolding to_le from_le
from_to zero v h = omega arith
from_to (suc width) v h =
    let e = from_to width (v / 256) ((div-lt_iff_lt-mul (omega arith)).1 (rw (pow-suc 256 width) at h)) in
    rw (e, mod-add-div v 256)

-- what is read is written
pub to_from : (bs : List ℕ) → Bytes bs → to_le (length bs) (from_le bs) ≡ bs
unfolding to_le from_le
to_from [] h = refl
to_from (b ∷ bs) h =
    let low : (b + 256 * from_le bs) % 256 ≡ b = add-mul-mod_self_left b 256 (from_le bs) ∙ mod-eq_of_lt (h 0) in
    let high : (b + 256 * from_le bs) / 256 ≡ from_le bs =
    add-mul-div_left b (from_le bs) {y = 256} (omega arith) ∙ rw (div-eq_of_lt (h 0)) (omega arith) in
    ap₂ ◌∷◌ low (ap (to_le (length bs)) high ∙ to_from bs (λ i. h (suc i)))

-- a field that is read, as bytes
module _ (bytes : List ℕ) (each : Bytes bytes) (width at : ℕ) where
  field-bytes : Bytes (take width (drop at bytes))
  field-bytes i = ⊎_elim past (λ h. rw (get_or-take width (drop at bytes) i 0 h, get_or-drop at bytes i 0) (each (at + i))) (le_or_lt width i)
    where
      past : width ≤ i → get_or (take width (drop at bytes)) i 0 < 256
      past h =
          let taken = take width (drop at bytes) in
          rw (get_or-eq_default taken 0 {n = i} (omega (arith, length-take width (drop at bytes)))) (omega arith)

  pub to_field : at + width ≤ length bytes → to_le width (field width at bytes) ≡ take width (drop at bytes)
  unfolding field
  to_field h =
      let l : length (take width (drop at bytes)) ≡ width = length-take-le width (drop at bytes) (omega (arith, length-drop at bytes)) in
      rw l at (to_from (take width (drop at bytes)) field-bytes)

-- ---- a number by its lower and its upper part

from_join : (xs ys : List ℕ) → from_le (xs ++ ys) ≡ from_le xs + 256 ^ length xs * from_le ys
unfolding from_le
from_join [] ys = omega arith
from_join (b ∷ xs) ys =
    let shifted : 256 ^ suc (length xs) * from_le ys ≡ 256 * (256 ^ length xs * from_le ys) = rw (pow-succ' 256 (length xs), mul_assoc) refl in
    rw (from_join xs ys, shifted) (omega arith)

pub field_join : (m n at : ℕ) (bytes : List ℕ) → at + m ≤ length bytes
    → field (m + n) at bytes ≡ field m at bytes + 256 ^ m * field n (at + m) bytes
unfolding field
field_join m n at bytes h =
    let low = take m (drop at bytes) in
    let l : length low ≡ m = length-take-le m (drop at bytes) (omega (arith, length-drop at bytes)) in
    rw (take-add m n (drop at bytes), drop-drop m at bytes, from_join low (take n (drop (at + m) bytes)), l)

pub field_byte : (at : ℕ) (bytes : List ℕ) → at < length bytes → field 1 at bytes ≡ get_or bytes at 0
unfolding field from_le
field_byte at bytes h = rw (drop-cons bytes at 0 h) (omega arith)

-- ---- fields of joined and cut lists

module _ (width at : ℕ) (xs ys : List ℕ) where
  pub field_left : at + width ≤ length xs → field width at (xs ++ ys) ≡ field width at xs
  unfolding field
  field_left h =
      rw (drop-append-le at xs ys (omega arith), take-append-le width (drop at xs) ys (omega (arith, length-drop at xs)))

  pub field_right : (m : ℕ) → length xs ≡ m → field width (m + at) (xs ++ ys) ≡ field width at ys
  unfolding field
  field_right m e = rw (← e, drop-append-add xs ys at)

-- cut behind the field
pub field_cut : (width at n : ℕ) (bytes : List ℕ) → at + width ≤ n → n ≤ length bytes → field width at (take n bytes) ≡ field width at bytes
field_cut width at n bytes h l =
    let front = field_left width at (take n bytes) (drop n bytes) (omega (arith, length-take-le n bytes l)) in
    sym front ∙ rw take-append-drop

-- behind a number of so many bytes; at one
pub field_next : (width at m v : ℕ) (ys : List ℕ) → field width (m + at) (to_le m v ++ ys) ≡ field width at ys
field_next width at m v ys = field_right width at (to_le m v) ys m (to_length m v)

pub field_here : (width v : ℕ) (ys : List ℕ) → v < 256 ^ width → field width 0 (to_le width v ++ ys) ≡ v
unfolding field
field_here width v ys h = rw (take_at (to_le width v) ys width (to_length width v)) (from_to width v h)

pub field_last : (width v : ℕ) → v < 256 ^ width → field width 0 (to_le width v) ≡ v
field_last width v h = rw append-nil at (field_here width v [] h)

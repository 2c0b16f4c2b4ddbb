-- What the library makes of bytes, and bytes of numbers, is what the definitions say (specs/Little).
use mathlib.Core.Path.{◌≡◌, refl, sym, ap, ◌∙◌}
use mathlib.Core.List.{List, ◌++◌, append-nil}
use mathlib.Core.Logic.{⊎_elim}
use Rattle.plan.proofs.PlaceLaws.{le_or_lt}
use Prim.Native.Nat.{ℕ, zero, suc, ◌+◌, ◌-◌, ◌/◌, ◌%◌, ◌^◌, ◌<◌, ◌≤◌}
use native.Mathlib.Nat.{div-lt_iff_lt-mul, div-div-eq-div-mul, pow-suc, mul_comm}
use native.Mathlib.Omega.{arith}
use lib.ListN.{length, take, drop, replicate}
use lib.Seq.{get_or-take, get_or-drop}
use Rattle.std.specs.Prelude.{min}
use Rattle.std.specs.List.{slice_index}
use Rattle.std.specs.Int.{sum_through, byte_worth, byte_at, bytes_low_first}
use Rattle.little.specs.Little.{to_le, field}
use Rattle.little.proofs.LittleLaws.{field_join, field_byte}

-- a number read from bytes that were cut out
module _ (width at : ℕ) (bytes : List ℕ) (inside : at + width ≤ length bytes) where
  abbrev cut : List ℕ
  cut = take width (drop at bytes)

  byte_is : (i : ℕ) → i < width → slice_index cut i ≡ field 1 (at + i) bytes
  byte_is i h = get_or-take width (drop at bytes) i 0 h ∙ get_or-drop at bytes i 0 ∙ sym (field_byte (at + i) bytes (omega arith))

  read_through : (k : ℕ) → k < width → sum_through (λ i. byte_worth i (slice_index cut i)) k ≡ field (k + 1) at bytes
  read_through zero h = let z : at + 0 ≡ at = omega arith in rw z at (byte_is 0 h)
  read_through (suc k) h =
      let before = read_through k (omega arith) in
      let joined = field_join (k + 1) 1 at bytes (omega arith) in
      let last = byte_is (suc k) h in
      let one : suc k ≡ k + 1 = omega arith in
      rw (before, last, one, joined, mul_comm (256 ^ (k + 1))) refl

pub read : (k at : ℕ) (bytes : List ℕ) → at + (k + 1) ≤ length bytes
    → sum_through (λ i. byte_worth i (slice_index (take (k + 1) (drop at bytes)) i)) k ≡ field (k + 1) at bytes
read k at bytes inside = read_through (k + 1) at bytes inside k (omega arith)

-- bytes of a number, from byte i on
byte_is_at : (i n : ℕ) → byte_at i n ≡ n / 256 ^ i % 256
byte_is_at zero n = let one : n / 1 ≡ n = omega arith in rw one
byte_is_at (suc i) n = refl

low_first : (k i n : ℕ) → bytes_low_first i k n ≡ to_le k (n / 256 ^ i)
unfolding to_le
low_first zero i n = refl
low_first (suc k) i n =
    let next : n / 256 ^ i / 256 ≡ n / 256 ^ suc i = rw (div-div-eq-div-mul, pow-suc) in
    rw (byte_is_at i n, next, low_first k (suc i) n)

-- fewer bytes of it
to_take : (k width v : ℕ) → k ≤ width → take k (to_le width v) ≡ to_le k v
unfolding to_le
to_take zero width v h = refl
to_take (suc k) zero v h = absurd (omega arith)
to_take (suc k) (suc width) v h = rw (to_take k width (v / 256) (omega arith))

-- more bytes than it has
to_zeros : (n : ℕ) → to_le n 0 ≡ replicate n 0
unfolding to_le
to_zeros zero = refl
to_zeros (suc n) = rw (to_zeros n)

to_more : (k n v : ℕ) → v < 256 ^ k → to_le (k + n) v ≡ to_le k v ++ replicate n 0
unfolding to_le
to_more zero n v h = let z : v ≡ 0 = omega arith in let m : 0 + n ≡ n = omega arith in rw (z, m, to_zeros n)
to_more (suc k) n v h =
    let m : suc k + n ≡ suc (k + n) = omega arith in
    let less : v / 256 < 256 ^ k = (div-lt_iff_lt-mul (omega arith)).1 (rw (pow-suc 256 k) at h) in
    rw m (rw (to_more k n (v / 256) less))

-- so, of a number of at most eight bytes
module _ (width low v : ℕ) (e : low ≡ min width 8) (h : v < 256 ^ 8) where
  pub first : take low (bytes_low_first 0 8 v) ≡ to_le low v
  first =
      let one : v / 1 ≡ v = omega arith in
      ap (take low) (low_first 8 0 v ∙ ap (to_le 8) one) ∙ to_take low 8 v (omega (arith, e))

  pub written : to_le low v ++ replicate (width - low) 0 ≡ to_le width v
  written = ⊎_elim whole longer (le_or_lt width 8)
    where
      whole : width ≤ 8 → to_le low v ++ replicate (width - low) 0 ≡ to_le width v
      whole k = let l : low ≡ width = omega (arith, e) in let z : width - width ≡ 0 = omega arith in rw (l, z) (append-nil (to_le width v))

      longer : 8 < width → to_le low v ++ replicate (width - low) 0 ≡ to_le width v
      longer k = let l : low ≡ 8 = omega (arith, e) in let z : 8 + (width - 8) ≡ width = omega arith in rw l (sym (to_more 8 (width - 8) v h) ∙ ap (λ (k : ℕ). to_le k v) z)

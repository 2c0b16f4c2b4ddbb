-- Bytes put at an offset, one run behind the other (specs/Little, put_at).
use mathlib.Core.Path.{◌≡◌, sym, ap, ap₂, ◌∙◌}
use mathlib.Core.List.{List, [], ◌++◌, append_assoc}
use Prim.Native.Nat.{ℕ, ◌+◌, ◌-◌, ◌≤◌}
use native.Mathlib.Omega.{arith}
use borrow.Rule.Slice.PartMut.{put_mid}
use lib.ListN.{length, take, drop, replicate, length-append, length-take, length-drop, length-replicate, take-append-drop}
use lib.Seq.{take_at, drop_at, drop-drop, take-append-le, drop-append-le, drop-append-add, length-take-le}
use Rattle.little.specs.Little.{put_at}

module _ (at : ℕ) where
  pub put_none : (bytes : List ℕ) → put_at at [] bytes ≡ bytes
  unfolding put_at
  put_none bytes = let z : at + 0 ≡ at = omega arith in rw (z, take-append-drop)

  -- a part of a slice, written anew
  pub put_part : (end : ℕ) (xs bytes : List ℕ) → end ≡ at + length xs → put_mid at (end - at) bytes xs ≡ put_at at xs bytes
  unfolding put_at
  put_part end xs bytes e = let k : end - at ≡ length xs = omega arith in rw (k, drop-drop)

  put_put : (xs ys bytes : List ℕ) (m : ℕ) → at ≤ length bytes → m ≡ at + length xs
      → put_at m ys (put_at at xs bytes) ≡ put_at at (xs ++ ys) bytes
  unfolding put_at
  put_put xs ys bytes m h e =
      let p = take at bytes in
      let d = drop (at + length xs) bytes in
      let len : length (p ++ xs) ≡ m = length-append p xs ∙ omega (arith, length-take-le at bytes h) in
      let sum : at + length xs + length ys ≡ at + length (xs ++ ys) = omega (arith, length-append xs ys) in
      let whole : p ++ (xs ++ d) ≡ (p ++ xs) ++ d = sym (append_assoc p xs d) in
      let front : take m (p ++ (xs ++ d)) ≡ p ++ xs = ap (take m) whole ∙ take_at (p ++ xs) d m len in
      let tail : drop (m + length ys) (p ++ (xs ++ d)) ≡ drop (at + length (xs ++ ys)) bytes =
      ap (drop (m + length ys)) whole ∙ ap (λ (k : ℕ). drop (k + length ys) ((p ++ xs) ++ d)) (sym len)
      ∙ drop-append-add (p ++ xs) d (length ys) ∙ drop-drop (length ys) (at + length xs) bytes ∙ ap (λ (k : ℕ). drop k bytes) sum in
      ap₂ (λ (a r : List ℕ). a ++ (ys ++ r)) front tail ∙ append_assoc p xs (ys ++ drop (at + length (xs ++ ys)) bytes)
      ∙ ap (λ (r : List ℕ). p ++ r) (sym (append_assoc xs ys (drop (at + length (xs ++ ys)) bytes)))

  -- the same of lists that code handed on
  pub then : (xs ys bytes bytes' bytes'' : List ℕ) (m : ℕ) → bytes' ≡ put_at at xs bytes → bytes'' ≡ put_at m ys bytes'
      → at ≤ length bytes → m ≡ at + length xs → bytes'' ≡ put_at at (xs ++ ys) bytes
  then xs ys bytes bytes' bytes'' m e f h g = f ∙ ap (put_at m ys) e ∙ put_put xs ys bytes m h g

-- from the offset on
pub put_drop : (at : ℕ) (xs bytes : List ℕ) → at ≤ length bytes → drop at (put_at at xs bytes) ≡ xs ++ drop (at + length xs) bytes
unfolding put_at
put_drop at xs bytes h = drop_at (take at bytes) (xs ++ drop (at + length xs) bytes) at (length-take-le at bytes h)

pub put_first : (xs bytes : List ℕ) → put_at 0 xs bytes ≡ xs ++ drop (length xs) bytes
unfolding put_at
put_first xs bytes = let z : 0 + length xs ≡ length xs = omega arith in rw z

-- ---- two runs apart from each other

pub put_length : (at : ℕ) (xs bytes : List ℕ) → at + length xs ≤ length bytes → length (put_at at xs bytes) ≡ length bytes
unfolding put_at
put_length at xs bytes h =
    length-append (take at bytes) (xs ++ drop (at + length xs) bytes)
    ∙ omega (arith, length-take-le at bytes (omega arith), length-append xs (drop (at + length xs) bytes), length-drop (at + length xs) bytes)

-- a part of a slice, and zeros in the part behind it
pub put_zeros : (at width low : ℕ) (xs zs bytes : List ℕ) → low ≤ width → at + width ≤ length bytes → length xs ≡ low
    → zs ≡ replicate (length (take (at + width - (at + low)) (drop (at + low) (put_mid at (at + low - at) bytes xs)))) 0
    → put_mid (at + low) (at + width - (at + low)) (put_mid at (at + low - at) bytes xs) zs ≡ put_at at (xs ++ replicate (width - low) 0) bytes
put_zeros at width low xs zs bytes h k e f =
    let one = put_part at (at + low) xs bytes (omega arith) in
    let whole = put_length at xs bytes (omega arith) in
    let put = put_at at xs bytes in
    let n : length (take (at + width - (at + low)) (drop (at + low) put)) ≡ width - low = omega (arith, length-take (at + width - (at + low)) (drop (at + low) put), length-drop (at + low) put) in
    let g : zs ≡ replicate (width - low) 0 = rw (one, n) at f in
    let m : length zs ≡ width - low = ap length g ∙ length-replicate (width - low) 0 in
    rw (one, put_part (at + low) (at + width) zs put (omega arith), g) (put_put at xs (replicate (width - low) 0) bytes (at + low) (omega arith) (omega arith))

-- in the first of two lists; at the seam
put_left : (at : ℕ) (xs l r : List ℕ) → at + length xs ≤ length l → put_at at xs (l ++ r) ≡ put_at at xs l ++ r
unfolding put_at
put_left at xs l r h =
    rw (take-append-le at l r (omega arith), drop-append-le (at + length xs) l r h)
    (sym (append_assoc (take at l) (xs ++ drop (at + length xs) l) r ∙ ap (λ (q : List ℕ). take at l ++ q) (append_assoc xs (drop (at + length xs) l) r)))

put_right : (m : ℕ) (ys l r : List ℕ) → length l ≡ m → put_at m ys (l ++ r) ≡ l ++ put_at 0 ys r
unfolding put_at
put_right m ys l r e =
    let z : 0 + length ys ≡ length ys = omega arith in
    rw (take_at l r m e, z, ← e, drop-append-add l r (length ys))

-- it does not matter which comes first
pub put_apart : (at m : ℕ) (xs ys bytes : List ℕ) → at + length xs ≤ m → m ≤ length bytes
    → put_at m ys (put_at at xs bytes) ≡ put_at at xs (put_at m ys bytes)
put_apart at m xs ys bytes h k =
    let l = take m bytes in
    let r = drop m bytes in
    let e : length l ≡ m = length-take-le m bytes k in
    let whole : bytes ≡ l ++ r = sym (take-append-drop m bytes) in
    let inside : at + length xs ≤ length l = omega arith in
    ap (λ (b : List ℕ). put_at m ys (put_at at xs b)) whole
    ∙ ap (put_at m ys) (put_left at xs l r inside)
    ∙ put_right m ys (put_at at xs l) r (put_length at xs l inside ∙ e)
    ∙ sym (put_left at xs l (put_at 0 ys r) inside)
    ∙ ap (put_at at xs) (sym (put_right m ys l r e))
    ∙ ap (λ (b : List ℕ). put_at at xs (put_at m ys b)) (sym whole)

-- a run before one that is there
pub put_before : (at m : ℕ) (xs ys bytes : List ℕ) → m ≡ at + length xs → m ≤ length bytes → put_at at xs (put_at m ys bytes) ≡ put_at at (xs ++ ys) bytes
put_before at m xs ys bytes e k =
    sym (put_apart at m xs ys bytes (omega arith) k) ∙ put_put at xs ys bytes m (omega arith) e

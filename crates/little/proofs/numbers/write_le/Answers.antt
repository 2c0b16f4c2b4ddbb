-- The lowest bytes, and zeros behind them.
use mathlib.Core.Path.{◌≡◌, ◌∙◌, ap}
use mathlib.Core.List.{List}
use Prim.Native.Nat.{ℕ}
use native.Mathlib.Omega.{arith}
use lib.ListN.{length, take}
use Rattle.std.specs.Int.{bytes_low_first}
use Rattle.little.specs.Little.{to_le, put_at}
use Rattle.little.proofs.LittleLaws.{to_length}
use Rattle.little.proofs.Library.{first, written}
use Rattle.little.proofs.Putting.{put_zeros}
use Rattle.little.proofs.numbers.write_le.Goals as goal

-- the bytes of v, however it is written
of_number : {w v : ℕ} {bytes : List ℕ} → bytes ≡ bytes_low_first 0 8 w → w ≡ v → bytes ≡ bytes_low_first 0 8 v
of_number e same = rw same at e

pub returns : goal.returns
returns c =
    let a = c.args in
    let low = c.min-low.result in
    let xs = c.copy_from_slice.new.self in
    let least = c.min-low.ensures in
    let v = c.ranges.v.fits in
    let number = of_number {v = a.v} c.to_le_bytes-number.ensures (omega arith) in
    let are : xs ≡ to_le low a.v = c.copy_from_slice.ensures.after ∙ ap (take low) number ∙ first a.width low a.v least v in
    let many : length xs ≡ low = ap length are ∙ to_length low a.v in
    put_zeros a.at a.width low xs c.fill.new.self a.bytes.now (omega (arith, least)) c.requires many (c.fill.ensures.after (λ x e. e))
    ∙ ap (λ put. put_at a.at put a.bytes.now) (rw are (written a.width low a.v least v))

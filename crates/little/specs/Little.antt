-- Little-endian numbers of any width, in bytes.
use Rattle.std.specs.Prelude.{List, [], ◌∷◌, ◌++◌, ℕ, zero, suc, ◌+◌, ◌*◌, ◌/◌, ◌%◌, ◌<◌, length, take, drop, get_or}
use Rattle.plan.specs.Places.{over_to}

-- the lowest `width` bytes of v, lowest first
unfoldable pub to_le : ℕ → ℕ → List ℕ
to_le zero v = []
to_le (suc width) v = v % 256 ∷ to_le width (v / 256)

-- the number that bytes are, lowest first
unfoldable pub from_le : List ℕ → ℕ
from_le [] = 0
from_le (b ∷ bs) = b + 256 * from_le bs

-- the number of `width` bytes at an offset
unfoldable pub field : ℕ → ℕ → List ℕ → ℕ
field width at bytes = from_le (take width (drop at bytes))

-- the numbers of `width` bytes at an offset and at each stride from there on
abbrev pub column : ℕ → ℕ → ℕ → List ℕ → ℕ → ℕ
column width at stride bytes i = field width (at + stride * i) bytes

-- a table with its first `count` places as f says
unfoldable pub filled : ℕ → (ℕ → ℕ) → List ℕ → List ℕ
filled count f table = over_to count (λ i _. f i) table

-- the bytes with some of them, from an offset on, put in place
unfoldable pub put_at : ℕ → List ℕ → List ℕ → List ℕ
put_at at put bytes = take at bytes ++ (put ++ drop (at + length put) bytes)

-- each number of a list is a byte, as in a slice of bytes
abbrev pub Bytes : List ℕ → Type 0
Bytes bytes = (i : ℕ) → get_or bytes i 0 < 256

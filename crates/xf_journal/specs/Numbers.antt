-- Numbers in a slot, the low byte first.
use Rattle.std.specs.Prelude.{ℕ, List}
use Rattle.std.specs.Int.{w32, w64, to_le_bytes, from_le_bytes}

-- a number of four bytes
unfoldable pub four : ℕ → List ℕ
four n = to_le_bytes w32 n

-- and one of eight
unfoldable pub eight : ℕ → List ℕ
eight n = to_le_bytes w64 n

-- the number of the first four bytes
unfoldable pub from_four : List ℕ → ℕ
from_four bytes = from_le_bytes w32 bytes

-- the number of the first eight bytes
unfoldable pub from_eight : List ℕ → ℕ
from_eight bytes = from_le_bytes w64 bytes

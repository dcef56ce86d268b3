-- Numbers, the low byte first.
use Rattle.std.specs.Prelude.{ℕ, List}
use Rattle.std.specs.Int.{w16, w32, w64, to_le_bytes, from_le_bytes}

-- a number of two bytes, one of four, and one of eight
unfoldable pub two : ℕ → List ℕ
two n = to_le_bytes w16 n

unfoldable pub four : ℕ → List ℕ
four n = to_le_bytes w32 n

unfoldable pub eight : ℕ → List ℕ
eight n = to_le_bytes w64 n

-- the number of the first two bytes, of the first four, and of the first eight
unfoldable pub from_two : List ℕ → ℕ
from_two bytes = from_le_bytes w16 bytes

unfoldable pub from_four : List ℕ → ℕ
from_four bytes = from_le_bytes w32 bytes

unfoldable pub from_eight : List ℕ → ℕ
from_eight bytes = from_le_bytes w64 bytes

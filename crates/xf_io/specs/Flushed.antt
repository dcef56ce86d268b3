-- How many of the bytes that a sink took are flushed, which it tells exactly where it tells the bytes.
use Rattle.std.specs.Prelude.{◌≡◌, ◌≤◌, ℕ, List, length, Option, Some, None}
use Rattle.std.specs.Option.{option_map}

-- what was flushed stays so
abbrev pub FlushesOn : Option ℕ → Option ℕ → Type 0
FlushesOn None new = Unit {0}
FlushesOn (Some old) None = ⊥
FlushesOn (Some old) (Some new) = old ≤ new

-- all that was taken is flushed
abbrev pub IsFlushed : Option (List ℕ) → Option ℕ → Type 0
IsFlushed taken flushed = flushed ≡ option_map length taken

-- The images of characters, collected one after the other.
use Rattle.std.proofs.Common.{ℕ, Some, None}
use Rattle.std.specs.declared.option.Option.{Option}

-- what was found already, else this
abbrev pub found_or : Option (Option ℕ) → Option (Option ℕ) → Option (Option ℕ)
found_or (Some found) other = Some found
found_or None other = other

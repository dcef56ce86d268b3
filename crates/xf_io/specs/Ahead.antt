-- What a reader of lines knows beside its source.
use Rattle.std.specs.Prelude.{ℕ, List, Bool}

-- the bytes that were read ahead, how many were given as lines or parts of lines, and whether the source told its end
pub record Ahead : Type 0 where
  pub bytes : List ℕ
  pub given : ℕ
  pub ended : Bool

-- so many bytes are ahead at the most
abbrev pub most_ahead : ℕ
most_ahead = 4096

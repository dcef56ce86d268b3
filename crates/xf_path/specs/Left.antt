-- The tokens of a text that stands before a place.
use Rattle.std.specs.Prelude.{ℕ, ◌-◌, List, length}
use Rattle.std.specs.Str.{chars}
use Rattle.xf_path.specs.Tokens.{Token, tokens_from}

abbrev pub tokens_at : ℕ → List ℕ → List Token
tokens_at end text = tokens_from 0 (end - length text) (chars text)

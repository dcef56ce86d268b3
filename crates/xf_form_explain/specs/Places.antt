-- Places in an expression, by characters.
use Rattle.std.specs.Prelude.{ℕ, Bool, not, ◌&&◌, ◌||◌, ◌==◌, nat_le, nat_lt, if◌then◌else◌, List, [], ◌++◌, codes, count_by, length, min, replicate, take}
use Rattle.std.specs.List.{list_all}
use Rattle.xf_base.specs.Limits.{expression_limit}

-- a byte of UTF-8 with which a character begins (RFC 3629, section 3)
abbrev pub begins_character : ℕ → Bool
begins_character b = nat_lt b 128 || nat_le 192 b

-- how many characters stand before a place
abbrev pub characters_before : List ℕ → ℕ → ℕ
characters_before text place = count_by begins_character (take (min (length text) place) text)

abbrev pub is_visible : ℕ → Bool
is_visible b = nat_le 32 b && not (b == 127)

-- it stands in one line, and is no longer than an expression may be
abbrev pub is_shown : List ℕ → Bool
is_shown text = nat_le (length text) expression_limit && list_all is_visible text

-- the expression, and a caret below the place
abbrev pub expression_lines : List ℕ → ℕ → List ℕ
expression_lines text place =
    if is_shown text then codes "    " ++ text ++ codes "\n    " ++ replicate (characters_before text place) 32 ++ codes "^\n" else []

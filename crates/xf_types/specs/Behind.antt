-- What a reader finds behind the parts of a text, as it passes them one after the other: the words of the functions that read durations.
-- What a duration is stands in Durations.
use Rattle.std.specs.Prelude.{ℕ, Bool, true, false, ◌&&◌, not, ◌==◌, if◌then◌else◌, List, [], ◌∷◌, codes}
use Rattle.xf_num.specs.Written.{is_empty, after_digits}
use Rattle.xf_types.specs.Shapes.{starts_with_digit}

-- what follows a byte that a text begins with, and otherwise the text
abbrev pub begins_with : ℕ → List ℕ → Bool
begins_with byte [] = false
begins_with byte (c ∷ text) = c == byte

abbrev pub past_first : List ℕ → List ℕ
past_first [] = []
past_first (c ∷ text) = text

-- what follows digits with this designator, and otherwise the text
abbrev pub past_part : ℕ → List ℕ → List ℕ
past_part designator text =
    if starts_with_digit text && begins_with designator (after_digits text) then past_first (after_digits text) else text

-- the same, where a point and digits may stand before the designator
abbrev pub past_fraction : List ℕ → List ℕ
past_fraction text =
    if begins_with 46 text && starts_with_digit (past_first text) then after_digits (past_first text) else text

abbrev pub past_seconds : List ℕ → List ℕ
past_seconds text =
    if starts_with_digit text && begins_with 83 (past_fraction (after_digits text))
    then past_first (past_fraction (after_digits text))
    else text

-- what follows parts in this order, each of which may be missing
abbrev pub past_parts : List ℕ → List ℕ → List ℕ
past_parts [] text = text
past_parts (designator ∷ designators) text = past_parts designators (past_part designator text)

-- hours, minutes and seconds, one part at least
abbrev pub is_time_parts : List ℕ → Bool
is_time_parts text = not (is_empty text) && is_empty (past_seconds (past_parts (codes "HM") text))

-- what follows the parts of days: nothing, or `T` and parts of a time
abbrev pub is_rest_of_parts : Bool → List ℕ → Bool
is_rest_of_parts times [] = true
is_rest_of_parts times (c ∷ text) = times && (c == 84) && is_time_parts text

-- one part at least, the date's by these designators
abbrev pub is_parts : List ℕ → Bool → List ℕ → Bool
is_parts dates times text = not (is_empty text) && is_rest_of_parts times (past_parts dates text)

abbrev pub past_minus : List ℕ → List ℕ
past_minus text = if begins_with 45 text then past_first text else text

-- behind an optional minus and `P` nothing is left but parts
abbrev pub is_passed : List ℕ → Bool → List ℕ → Bool
is_passed dates times text = begins_with 80 (past_minus text) && is_parts dates times (past_first (past_minus text))

-- Durations (XML Schema part 2, section 3.2.6; XForms 1.1, section 5.2), as the texts that are put together of their parts.
use Rattle.std.specs.Prelude.{ℕ, Bool, ◌&&◌, ◌||◌, not, List, [], ◌∷◌, map, bytes_eq, codes}
use Rattle.std.specs.List.{list_all, list_any}
use Rattle.xf_num.specs.Written.{is_digit, is_empty}

-- the ways to cut a text in two
abbrev pub cuts : List ℕ → List (List ℕ × List ℕ)
cuts [] = ([], []) ∷ []
cuts (c ∷ text) = ([], c ∷ text) ∷ map (λ p. (c ∷ p.0, p.1)) (cuts text)

-- a text of the first kind, and one of the second kind behind it
abbrev pub is_joined : (List ℕ → Bool) → (List ℕ → Bool) → List ℕ → Bool
is_joined first second text = list_any (λ p. first p.0 && second p.1) (cuts text)

-- a text of this kind, or nothing
abbrev pub may_be : (List ℕ → Bool) → List ℕ → Bool
may_be kind text = is_empty text || kind text

-- this byte alone
abbrev pub is_byte : ℕ → List ℕ → Bool
is_byte byte text = bytes_eq text (byte ∷ [])

-- one digit or more
abbrev pub is_digits : List ℕ → Bool
is_digits text = not (is_empty text) && list_all is_digit text

-- digits and the letter of their part
abbrev pub is_part : ℕ → List ℕ → Bool
is_part letter = is_joined is_digits (is_byte letter)

-- the part of the seconds, in which a point and digits may stand before the letter `S`
abbrev pub is_seconds : List ℕ → Bool
is_seconds = is_joined (is_joined is_digits (may_be (is_joined (is_byte 46) is_digits))) (is_byte 83)

-- parts with these letters in their order, each of which may be missing, and what stands behind them
abbrev pub are_parts : List ℕ → (List ℕ → Bool) → List ℕ → Bool
are_parts [] rest = rest
are_parts (letter ∷ letters) rest = is_joined (may_be (is_part letter)) (are_parts letters rest)

-- such parts, where one at least is there
abbrev pub are_some_parts : List ℕ → (List ℕ → Bool) → List ℕ → Bool
are_some_parts letters rest text = not (is_empty text) && are_parts letters rest text

-- `T` and the parts of a time
abbrev pub is_time_of_day : List ℕ → Bool
is_time_of_day = is_joined (is_byte 84) (are_some_parts (codes "HM") (may_be is_seconds))

-- an optional minus, `P`, and the parts: those of days, months and years have these letters
abbrev pub is_signed : List ℕ → (List ℕ → Bool) → List ℕ → Bool
is_signed letters rest = is_joined (may_be (is_byte 45)) (is_joined (is_byte 80) (are_some_parts letters rest))

abbrev pub is_duration : List ℕ → Bool
is_duration = is_signed (codes "YMD") (may_be is_time_of_day)

abbrev pub is_day_time_duration : List ℕ → Bool
is_day_time_duration = is_signed (codes "D") (may_be is_time_of_day)

abbrev pub is_year_month_duration : List ℕ → Bool
is_year_month_duration = is_signed (codes "YM") is_empty

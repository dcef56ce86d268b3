-- The months and the seconds that durations stand for (XML Schema part 2, section 3.2.6; XForms 1.1, section 7.9, on months and
-- seconds).
use Rattle.std.specs.Prelude.{ℕ, ◌+◌, ◌*◌, Bool, true, if◌then◌else◌, List, ℤ, Option, Some, None, codes}
use Rattle.std.specs.Str.Parse.{digits_value}
use Rattle.xf_num.specs.Number.{scale, in_range}
use Rattle.xf_num.specs.Written.{trimmed, leading_digits, after_digits, units_of}
use Rattle.xf_types.specs.Numerals.{signed_size}
use Rattle.xf_types.specs.Behind.{begins_with, past_first, past_minus, past_part, past_parts}
use Rattle.xf_types.specs.Durations.{is_duration}
use Rattle.xf_dates.specs.Decimals.{decimals_at}

-- the number that the digits before a designator write, and 0 where there is no such part
abbrev pub part_value : ℕ → List ℕ → ℕ
part_value designator text =
    if begins_with designator (after_digits text) then digits_value 10 (leading_digits text) else 0

-- the months of the years and months
abbrev pub months_at : List ℕ → ℕ
months_at parts = 12 * part_value 89 parts + part_value 77 (past_part 89 parts)

-- the whole seconds of the hours, minutes and seconds
abbrev pub time_at : List ℕ → ℕ
time_at time =
    3600 * part_value 72 time + 60 * part_value 77 (past_part 72 time) + digits_value 10 (leading_digits (past_parts (codes "HM") time))

-- the decimals of the seconds
abbrev pub decimals_of_time : List ℕ → List ℕ
decimals_of_time time = decimals_at (after_digits (past_parts (codes "HM") time))

-- the hours, minutes and seconds, after a `T`
abbrev pub time_of : List ℕ → List ℕ
time_of parts = past_first (past_parts (codes "YMD") parts)

unfoldable pub months_units : ℕ → List ℕ → ℕ
months_units d parts = months_at parts * scale d

-- decimals after the d-th are dropped
unfoldable pub seconds_units : ℕ → List ℕ → ℕ
seconds_units d parts =
    (86400 * part_value 68 (past_parts (codes "YM") parts) + time_at (time_of parts)) * scale d
    + units_of d 0 (decimals_of_time (time_of parts))

-- the two numbers, each NaN where it is out of range, of the parts after the sign and the `P`
abbrev pub both : ℕ → Bool → List ℕ → Option ℤ × Option ℤ
both d minus parts = (in_range (signed_size minus (months_units d parts)), in_range (signed_size minus (seconds_units d parts)))

-- the months and the seconds of a duration
unfoldable pub duration_in : ℕ → List ℕ → Option (Option ℤ × Option ℤ)
duration_in d text =
    if is_duration text
    then Some (both d (begins_with 45 text) (past_first (past_minus text)))
    else None

-- the same of a text, white space at its ends dropped; None where it is no duration
abbrev pub duration : ℕ → List ℕ → Option (Option ℤ × Option ℤ)
duration d text = duration_in d (trimmed text)

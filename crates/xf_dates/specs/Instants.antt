-- The seconds that dateTimes stand for, with d decimals (XML Schema part 2, section 3.2.7; XForms 1.1, section 7.9, on
-- seconds-from-dateTime).
use Rattle.std.specs.Prelude.{ℕ, if◌then◌else◌, List, drop, ℤ, pos, ◌+ℤ◌, ◌*ℤ◌, Option, None}
use Rattle.xf_num.specs.Number.{scale, in_range}
use Rattle.xf_num.specs.Written.{trimmed, units_of}
use Rattle.xf_types.specs.Times.{is_date_time}
use Rattle.xf_dates.specs.Decimals.{decimals_at}
use Rattle.xf_dates.specs.Days.{second_at}

-- the seconds since 1970-01-01T00:00:00Z, whose decimals count forward from the whole second, and after the d-th are dropped
unfoldable pub seconds_in : ℕ → List ℕ → Option ℤ
seconds_in d text =
    if is_date_time text
    then in_range (second_at text *ℤ pos (scale d) +ℤ pos (units_of d 0 (decimals_at (drop 19 text))))
    else None

-- the same of a text, white space at its ends dropped; NaN where it is no dateTime
abbrev pub seconds_of : ℕ → List ℕ → Option ℤ
seconds_of d text = seconds_in d (trimmed text)

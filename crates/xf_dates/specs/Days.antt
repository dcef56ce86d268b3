-- The days and seconds that dates and dateTimes stand for (XML Schema part 2, sections 3.2.7 and 3.2.9; XForms 1.1, section 7.9, on
-- days-from-date and seconds-from-dateTime).
use Rattle.std.specs.Prelude.{ℕ, ◌+◌, ◌*◌, ◌==◌, if◌then◌else◌, List, [], ◌∷◌, take, drop, ℤ, pos, neg_ℤ, ◌+ℤ◌, ◌-ℤ◌, ◌*ℤ◌, Option, Some, None}
use Rattle.std.specs.Int.{int_div_euclid}
use Rattle.jiff_core.specs.Calendar.{days_from_civil}
use Rattle.xf_num.specs.Written.{trimmed}
use Rattle.xf_types.specs.Shapes.{two_digits}
use Rattle.xf_types.specs.Times.{year_of, is_date, is_date_time}
use Rattle.xf_dates.specs.Decimals.{past_decimals}

-- the days from 1970-01-01 to the date `YYYY-MM-DD` that a text begins with
abbrev pub day_at : List ℕ → ℤ
day_at text = days_from_civil (pos (year_of text)) (two_digits text 5) (two_digits text 8)

-- the seconds from midnight to the time `hh:mm:ss` that a text begins with: hour 24 is the midnight of the next day
abbrev pub clock_at : List ℕ → ℕ
clock_at text = 3600 * two_digits text 0 + 60 * two_digits text 3 + two_digits text 6

-- the seconds of the hours and minutes `hh:mm` of a zone
abbrev pub offset_at : List ℕ → ℕ
offset_at text = 3600 * two_digits text 0 + 60 * two_digits text 3

-- by how many seconds the clocks of a zone are ahead of UTC: none for `Z` and where no zone is written
abbrev pub ahead : List ℕ → ℤ
ahead [] = pos 0
ahead (c ∷ text) =
    if c == 43 then pos (offset_at text) else (if c == 45 then neg_ℤ (pos (offset_at text)) else pos 0)

-- the whole seconds from 1970-01-01T00:00:00Z to a dateTime
abbrev pub second_at : List ℕ → ℤ
second_at text =
    day_at (take 10 text) *ℤ pos 86400 +ℤ pos (clock_at (drop 11 text)) -ℤ ahead (past_decimals (drop 19 text))

-- the day number of a date, whose zone is passed over, or of the day that a dateTime has in UTC
unfoldable pub day_in : List ℕ → Option ℤ
day_in text =
    if is_date text then Some (day_at (take 10 text))
    else (if is_date_time text then Some (int_div_euclid (second_at text) (pos 86400)) else None)

-- the same of a text, white space at its ends dropped; None where it is neither
abbrev pub day_of : List ℕ → Option ℤ
day_of text = day_in (trimmed text)

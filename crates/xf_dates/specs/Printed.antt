-- The texts of days and of seconds (XML Schema part 2, sections 3.2.7 and 3.2.9; XForms 1.1, section 7.9, on days-to-date and
-- seconds-to-dateTime).
use Rattle.std.specs.Prelude.{ℕ, zero, suc, ◌+◌, ◌/◌, ◌%◌, if◌then◌else◌, List, [], ◌∷◌, ◌++◌, ℤ, pos, ◌-ℤ◌, int_le, int_lt, unsigned_abs, Option, Some, None, option_map}
use Rattle.std.specs.Int.{int_div_euclid, int_rem_euclid}
use Rattle.jiff_core.specs.declared.civil.date.Date.{Date}
use Rattle.jiff_core.specs.Calendar.{days_from_civil}
use Rattle.jiff_fmt.specs.Text.{pad2, year_text}
use Rattle.xf_num.specs.Number.{scale, rounded}

-- the whole number nearest to a number, of two the greater; None for NaN
abbrev pub nearest_whole : ℕ → Option ℤ → Option ℤ
nearest_whole d number = option_map (λ k. int_div_euclid k (pos (scale d))) (rounded d number)

-- ---- the date of a day

-- the last of the first years that has begun on a day, and 0 where none has
unfoldable pub last_year : ℕ → ℤ → ℕ
last_year zero day = 0
last_year (suc year) day = if int_le (days_from_civil (pos (suc year)) 1 1) day then suc year else last_year year day

-- the last of the first months of a year that has begun on a day
unfoldable pub last_month : ℕ → ℕ → ℤ → ℕ
last_month year zero day = 0
last_month year (suc month) day =
    if int_le (days_from_civil (pos year) (suc month) 1) day then suc month else last_month year month day

-- the year, the month and the place of the day in it
abbrev pub date_in_month : ℕ → ℕ → ℤ → ℤ × ℕ × ℕ
date_in_month year month day = (pos year, month, unsigned_abs (day -ℤ days_from_civil (pos year) month 1) + 1)

abbrev pub date_in_year : ℕ → ℤ → ℤ × ℕ × ℕ
date_in_year year day = date_in_month year (last_month year 12 day) day

-- the date with this day number: in the last year and the last month that have begun by then, in the years 0001 to 9999
unfoldable pub civil_date : ℤ → Option (ℤ × ℕ × ℕ)
civil_date day =
    if int_lt day (days_from_civil (pos 1) 1 1) then None
    else (if int_le (days_from_civil (pos 10000) 1 1) day then None
    else Some (date_in_year (last_year 9999 day) day))

-- ---- texts

-- what contracts see of a date
abbrev pub parts_of : Date → ℤ × ℕ × ℕ
parts_of date = (date.year, date.month, date.day)

-- `YYYY-MM-DD`
abbrev pub date_text : ℤ × ℕ × ℕ → List ℕ
date_text (year, month, day) = year_text year ++ 45 ∷ [] ++ pad2 month ++ 45 ∷ [] ++ pad2 day

-- `hh:mm:ss`, so many seconds after midnight
abbrev pub clock_text : ℕ → List ℕ
clock_text second = pad2 (second / 3600) ++ 58 ∷ pad2 (second / 60 % 60) ++ 58 ∷ pad2 (second % 60)

-- the text of a date, and the empty text where there is none
abbrev pub text_of_date : Option (ℤ × ℕ × ℕ) → List ℕ
text_of_date None = []
text_of_date (Some date) = date_text date

-- the same with the time after a `T`, and a `Z`
abbrev pub text_of_moment : Option (ℤ × ℕ × ℕ) → ℕ → List ℕ
text_of_moment None second = []
text_of_moment (Some date) second = date_text date ++ 84 ∷ clock_text second ++ 90 ∷ []

abbrev pub day_text : Option ℤ → List ℕ
day_text None = []
day_text (Some day) = text_of_date (civil_date day)

abbrev pub second_text : Option ℤ → List ℕ
second_text None = []
second_text (Some second) =
    text_of_moment (civil_date (int_div_euclid second (pos 86400))) (unsigned_abs (int_rem_euclid second (pos 86400)))

-- the date that is so many days, rounded, after 1970-01-01
abbrev pub date_of : ℕ → Option ℤ → List ℕ
date_of d day = day_text (nearest_whole d day)

-- the dateTime in UTC that is so many seconds, rounded, after 1970-01-01T00:00:00Z
abbrev pub moment_of : ℕ → Option ℤ → List ℕ
moment_of d seconds = second_text (nearest_whole d seconds)

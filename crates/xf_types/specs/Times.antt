-- Dates and times (XML Schema part 2, sections 3.2.7 to 3.2.14), in the years 0001 to 9999.
use Rattle.std.specs.Prelude.{ℕ, ◌+◌, ◌*◌, Bool, true, ◌&&◌, ◌||◌, not, ◌==◌, nat_le, if◌then◌else◌, List, [], ◌∷◌, take, drop, bytes_eq, codes, pos}
use Rattle.jiff_core.specs.Calendar.{days_in_month}
use Rattle.xf_num.specs.Written.{is_digit, is_empty, after_digits}
use Rattle.xf_types.specs.Shapes.{fits, two_digits, starts_with_digit}

-- ---- zones

-- up to 14 hours
abbrev pub is_offset : ℕ → ℕ → Bool
is_offset hours minutes = (nat_le hours 13 && nat_le minutes 59) || ((hours == 14) && (minutes == 0))

-- `Z`, or a sign, hours and minutes
abbrev pub is_zone : List ℕ → Bool
is_zone text =
    bytes_eq text (codes "Z")
    || ((fits (codes "+00:00") text || fits (codes "-00:00") text) && is_offset (two_digits text 1) (two_digits text 4))

-- nothing, or a zone
abbrev pub may_be_zone : List ℕ → Bool
may_be_zone text = is_empty text || is_zone text

-- ---- days

abbrev pub is_month : ℕ → Bool
is_month month = nat_le 1 month && nat_le month 12

-- the calendar has this day in this year
abbrev pub is_day : ℕ → ℕ → ℕ → Bool
is_day year month day = is_month month && nat_le 1 day && nat_le day (days_in_month (pos year) month)

abbrev pub year_of : List ℕ → ℕ
year_of text = 100 * two_digits text 0 + two_digits text 2

abbrev pub is_year_alone : List ℕ → Bool
is_year_alone text = fits (codes "0000") text && nat_le 1 (year_of text)

abbrev pub is_year_month : List ℕ → Bool
is_year_month text = fits (codes "0000-00") text && nat_le 1 (year_of text) && is_month (two_digits text 5)

abbrev pub is_date_alone : List ℕ → Bool
is_date_alone text =
    fits (codes "0000-00-00") text && nat_le 1 (year_of text) && is_day (year_of text) (two_digits text 5) (two_digits text 8)

abbrev pub is_month_alone : List ℕ → Bool
is_month_alone text = fits (codes "--00") text && is_month (two_digits text 2)

-- a day of a month in some year, so in a leap year
abbrev pub is_month_day : List ℕ → Bool
is_month_day text = fits (codes "--00-00") text && is_day 2000 (two_digits text 2) (two_digits text 5)

abbrev pub is_day_alone : List ℕ → Bool
is_day_alone text = fits (codes "---00") text && nat_le 1 (two_digits text 3) && nat_le (two_digits text 3) 31

-- ---- times

abbrev pub is_clock : ℕ → ℕ → ℕ → Bool
is_clock hour minute second = nat_le hour 23 && nat_le minute 59 && nat_le second 59

-- the end of a day
abbrev pub is_midnight : ℕ → ℕ → ℕ → Bool
is_midnight hour minute second = (hour == 24) && (minute == 0) && (second == 0)

-- the digits that a text begins with are zeros
abbrev pub begins_with_zeros : List ℕ → Bool
begins_with_zeros [] = true
begins_with_zeros (c ∷ text) = if is_digit c then (c == 48) && begins_with_zeros text else true

-- what follows the seconds: an optional point with digits, zeros where the day ends, and an optional zone
abbrev pub is_after_seconds : Bool → List ℕ → Bool
is_after_seconds ends [] = true
is_after_seconds ends (c ∷ text) =
    if c == 46 then starts_with_digit text && (not ends || begins_with_zeros text) && may_be_zone (after_digits text) else is_zone (c ∷ text)

abbrev pub is_clock_text : List ℕ → Bool
is_clock_text text =
    fits (codes "00:00:00") text
    && (is_clock (two_digits text 0) (two_digits text 3) (two_digits text 6) || is_midnight (two_digits text 0) (two_digits text 3) (two_digits text 6))

abbrev pub is_time : List ℕ → Bool
is_time text = is_clock_text (take 8 text) && is_after_seconds (two_digits text 0 == 24) (drop 8 text)

-- ---- with a zone

abbrev pub is_date : List ℕ → Bool
is_date text = is_date_alone (take 10 text) && may_be_zone (drop 10 text)

abbrev pub is_date_time : List ℕ → Bool
is_date_time text = is_date_alone (take 10 text) && bytes_eq (take 1 (drop 10 text)) (codes "T") && is_time (drop 11 text)

abbrev pub is_g_year : List ℕ → Bool
is_g_year text = is_year_alone (take 4 text) && may_be_zone (drop 4 text)

abbrev pub is_g_year_month : List ℕ → Bool
is_g_year_month text = is_year_month (take 7 text) && may_be_zone (drop 7 text)

abbrev pub is_g_month : List ℕ → Bool
is_g_month text = is_month_alone (take 4 text) && may_be_zone (drop 4 text)

abbrev pub is_g_month_day : List ℕ → Bool
is_g_month_day text = is_month_day (take 7 text) && may_be_zone (drop 7 text)

abbrev pub is_g_day : List ℕ → Bool
is_g_day text = is_day_alone (take 5 text) && may_be_zone (drop 5 text)

-- Worked values of the definitions.
use Rattle.std.proofs.Common.{◌≡◌, pos, negsuc, Some, None, refl, sym, ap, codes, rules}
use Rattle.jiff_core.specs.Calendar.{days_of_years, days_of_months, day_count, days_from_civil}
use Rattle.xf_num.specs.Number.{scale}
use Rattle.xf_dates.specs.Days.{day_in, day_of}
use Rattle.xf_dates.specs.Instants.{seconds_in, seconds_of}
use Rattle.xf_dates.specs.Durations.{months_units, seconds_units, duration_in, duration}
use Rattle.xf_dates.specs.Printed.{nearest_whole, civil_date, text_of_date, text_of_moment, date_of, moment_of}
use Rattle.xf_dates.proofs.DayLemmas.{civil_date-of}

-- ---- days-from-date

new_year_2002 : day_of (codes "2002-01-01") ≡ Some (pos 11688)
unfolding day_in days_from_civil day_count days_of_years days_of_months
new_year_2002 = refl

leap_day_2000 : day_of (codes "2000-02-29-14:00") ≡ Some (pos 11016)
unfolding day_in days_from_civil day_count days_of_years days_of_months
leap_day_2000 = refl

no_leap_day_2100 : day_of (codes "2100-02-29") ≡ None
unfolding day_in
no_leap_day_2100 = refl

no_day_of_some_year : day_of (codes "--02-29") ≡ None
unfolding day_in
no_day_of_some_year = refl

day_in_utc : day_of (codes "1970-01-01T00:00:00.5+00:01") ≡ Some (negsuc 0)
unfolding day_in days_from_civil day_count days_of_years days_of_months
day_in_utc = refl

past_the_last_year : day_of (codes " 9999-12-31T24:00:00 ") ≡ Some (pos 2932897)
unfolding day_in days_from_civil day_count days_of_years days_of_months
past_the_last_year = refl

no_zone_of_14_hours_and_more : day_of (codes "2002-01-01+14:01") ≡ None
unfolding day_in
no_zone_of_14_hours_and_more = refl

-- ---- seconds-from-dateTime

west_of_greenwich : seconds_of 6 (codes "1969-12-31T19:00:00-05:00") ≡ Some (pos 0)
unfolding seconds_in scale days_from_civil day_count days_of_years days_of_months
west_of_greenwich = refl

half_before_1970 : seconds_of 6 (codes "1969-12-31T23:59:59.5Z") ≡ Some (negsuc 499999)
unfolding seconds_in scale days_from_civil day_count days_of_years days_of_months
half_before_1970 = refl

seventh_dropped : seconds_of 6 (codes "1970-01-01T00:00:00.1234567") ≡ Some (pos 123456)
unfolding seconds_in scale days_from_civil day_count days_of_years days_of_months
seventh_dropped = refl

no_decimals : seconds_of 0 (codes "1970-01-01T00:00:01.9") ≡ Some (pos 1)
unfolding seconds_in scale days_from_civil day_count days_of_years days_of_months
no_decimals = refl

-- with nine decimals the last number is in the year 2001, and what comes later is out of range
last_billionth : seconds_of 9 (codes "2001-09-09T01:46:39.999999999Z") ≡ Some (pos 999999999999999999)
unfolding seconds_in scale days_from_civil day_count days_of_years days_of_months
last_billionth = refl

new_year_out_of_range : seconds_of 9 (codes "2002-01-01T00:00:00Z") ≡ None
unfolding seconds_in scale days_from_civil day_count days_of_years days_of_months
new_year_out_of_range = refl

out_of_range : seconds_of 9 (codes "9999-01-01T00:00:00") ≡ None
unfolding seconds_in scale days_from_civil day_count days_of_years days_of_months
out_of_range = refl

-- ---- seconds and months

row_of_seconds : duration 6 (codes "P3DT10H30M1.5S") ≡ Some (Some (pos 0), Some (pos 297001500000))
unfolding duration_in months_units seconds_units scale
row_of_seconds = refl

-- the same without decimals
row_of_whole_seconds : duration 0 (codes "P3DT10H30M1.5S") ≡ Some (Some (pos 0), Some (pos 297001))
unfolding duration_in months_units seconds_units scale
row_of_whole_seconds = refl

row_of_months : duration 6 (codes "P1Y2M") ≡ Some (Some (pos 14000000), Some (pos 0))
unfolding duration_in months_units seconds_units scale
row_of_months = refl

months_before : duration 6 (codes "-P19M") ≡ Some (Some (negsuc 18999999), Some (pos 0))
unfolding duration_in months_units seconds_units scale
months_before = refl

one_half_out_of_range : duration 6 (codes "P1MT1000000000000S") ≡ Some (Some (pos 1000000), None)
unfolding duration_in months_units seconds_units scale
one_half_out_of_range = refl

no_parts : duration 6 (codes "P") ≡ None
unfolding duration_in
no_parts = refl

-- ---- days-to-date and seconds-to-dateTime

half_up : nearest_whole 6 (Some (negsuc 499999)) ≡ Some (pos 0)
unfolding scale
half_up = refl

day_before_1970 : civil_date (negsuc 0) ≡ Some (pos 1969, 12, 31)
unfolding days_from_civil day_count days_of_years days_of_months
day_before_1970 = sym (civil_date-of (pos 1969) 12 31 (negsuc 0) (search rules) (search rules) refl)

row_of_dates : date_of 6 (Some (negsuc 999999)) ≡ codes "1969-12-31"
unfolding scale
row_of_dates = ap text_of_date day_before_1970

day_1970 : civil_date (pos 0) ≡ Some (pos 1970, 1, 1)
unfolding days_from_civil day_count days_of_years days_of_months
day_1970 = sym (civil_date-of (pos 1970) 1 1 (pos 0) (search rules) (search rules) refl)

row_of_moments : moment_of 6 (Some (pos 0)) ≡ codes "1970-01-01T00:00:00Z"
unfolding scale
row_of_moments = ap (λ date. text_of_moment date 0) day_1970

second_before_1970 : moment_of 6 (Some (negsuc 999999)) ≡ codes "1969-12-31T23:59:59Z"
unfolding scale
second_before_1970 = ap (λ date. text_of_moment date 86399) day_before_1970

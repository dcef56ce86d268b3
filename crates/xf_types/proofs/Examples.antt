-- Worked values of the definitions.
use Rattle.std.proofs.Common.{◌≡◌, true, false, Some, None, refl, codes}
use Rattle.xf_types.specs.declared.kind.BuiltIn.TheVariants.{Boolean, Byte, Date, DateTime, DayTimeDuration, Duration, GMonthDay, HexBinary, Integer, Time, UnsignedLong, YearMonthDuration}
use Rattle.xf_table.specs.Contents.{type_entries}
use Rattle.xf_types.specs.Named.{type_named, schema_uri, forms_uri}
use Rattle.xf_types.specs.Meets.{meets_kind, meets_type}

leap_day : meets_kind Date (codes "2004-02-29Z") ≡ true
leap_day = refl

no_leap_day : meets_kind Date (codes "2100-02-29") ≡ false
no_leap_day = refl

no_year_zero : meets_kind Date (codes "0000-01-01") ≡ false
no_year_zero = refl

last_zone : meets_kind Date (codes "2004-01-01+14:00") ≡ true
last_zone = refl

past_last_zone : meets_kind Date (codes "2004-01-01+14:01") ≡ false
past_last_zone = refl

end_of_day : meets_kind DateTime (codes "9999-12-31T24:00:00.0") ≡ true
end_of_day = refl

past_end_of_day : meets_kind Time (codes "24:00:00.5") ≡ false
past_end_of_day = refl

day_of_some_year : meets_kind GMonthDay (codes "--02-29") ≡ true
day_of_some_year = refl

every_part : meets_kind Duration (codes "P1Y2M3DT4H5M6.75S") ≡ true
every_part = refl

seconds_with_point : meets_kind Duration (codes "-P1DT2.5S") ≡ true
seconds_with_point = refl

minutes_behind_years : meets_kind Duration (codes "P10YT0M") ≡ true
minutes_behind_years = refl

no_parts : meets_kind Duration (codes "P") ≡ false
no_parts = refl

no_parts_of_a_time : meets_kind Duration (codes "P1DT") ≡ false
no_parts_of_a_time = refl

out_of_order : meets_kind Duration (codes "P1M1Y") ≡ false
out_of_order = refl

doubled : meets_kind Duration (codes "PT1M1M") ≡ false
doubled = refl

no_time_letter : meets_kind Duration (codes "P1S") ≡ false
no_time_letter = refl

letter_alone : meets_kind Duration (codes "PY") ≡ false
letter_alone = refl

digits_alone : meets_kind Duration (codes "P1Y1") ≡ false
digits_alone = refl

point_without_decimals : meets_kind Duration (codes "PT1.S") ≡ false
point_without_decimals = refl

point_in_minutes : meets_kind Duration (codes "PT1.5M") ≡ false
point_in_minutes = refl

sign_inside : meets_kind Duration (codes "P-1D") ≡ false
sign_inside = refl

days_and_minutes : meets_kind DayTimeDuration (codes "P1DT1M") ≡ true
days_and_minutes = refl

no_months : meets_kind DayTimeDuration (codes "P1M") ≡ false
no_months = refl

years_and_months : meets_kind YearMonthDuration (codes "-P1Y2M") ≡ true
years_and_months = refl

no_time_of_day : meets_kind YearMonthDuration (codes "P1YT1S") ≡ false
no_time_of_day = refl

no_digits : meets_kind Integer (codes "") ≡ false
no_digits = refl

least_byte : meets_kind Byte (codes "-128") ≡ true
least_byte = refl

past_unsigned : meets_kind UnsignedLong (codes "18446744073709551616") ≡ false
past_unsigned = refl

odd_hex : meets_kind HexBinary (codes "0aF") ≡ false
odd_hex = refl

blanks_then_empty : meets_type (record { kind = Integer; may_be_empty = true }) (codes "  ") ≡ true
blanks_then_empty = refl

-- the table's marks say which names there are
in_schema : type_named schema_uri (codes "boolean") ≡ Some (record { kind = Boolean; may_be_empty = false })
unfolding type_entries
in_schema = refl

no_duration_in_forms : type_named forms_uri (codes "duration") ≡ None
unfolding type_entries
no_duration_in_forms = refl

no_list_item_in_schema : type_named schema_uri (codes "listItem") ≡ None
unfolding type_entries
no_list_item_in_schema = refl

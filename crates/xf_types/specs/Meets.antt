-- Which texts meet a simple type (XML Schema part 2, section 3; XForms 1.1, section 5).
use Rattle.std.specs.Prelude.{ℕ, Bool, true, false, ◌&&◌, ◌||◌, not, List, bytes_eq, codes, pos, negsuc, Some, None}
use Rattle.xf_num.specs.Written.{is_empty, trimmed}
use Rattle.xf_types.specs.declared.kind.BuiltIn.{BuiltIn}
use Rattle.xf_types.specs.declared.kind.BuiltIn.TheVariants.{NCName, Name, QName, AnyUri, Boolean, Byte, Date, DateTime, DayTimeDuration, Decimal, Duration, GDay, GMonth, GMonthDay, GYear, GYearMonth, HexBinary, Int, Integer, ListItem, ListItems, Long, NegativeInteger, NonNegativeInteger, NonPositiveInteger, NormalizedString, PositiveInteger, Short, Text, Time, Token, UnsignedByte, UnsignedInt, UnsignedLong, UnsignedShort, YearMonthDuration}
use Rattle.xf_types.specs.declared.kind.SimpleType.{SimpleType}
use Rattle.xf_types.specs.Shapes.{is_hex, has_space}
use Rattle.xf_types.specs.Numerals.{is_decimal, is_between}
use Rattle.xf_types.specs.Times.{is_date, is_date_time, is_time, is_g_year, is_g_year_month, is_g_month, is_g_month_day, is_g_day}
use Rattle.xf_types.specs.Parts.{is_name_part, is_name, is_q_name}
use Rattle.xf_types.specs.Durations.{is_duration, is_day_time_duration, is_year_month_duration}

abbrev pub is_boolean : List ℕ → Bool
is_boolean text =
    bytes_eq text (codes "true") || bytes_eq text (codes "false") || bytes_eq text (codes "1") || bytes_eq text (codes "0")

-- the types of integers, which differ in their bounds; no text meets another type as one of them
abbrev pub meets_integer : BuiltIn → List ℕ → Bool
meets_integer Integer text = is_between None None text
meets_integer NonPositiveInteger text = is_between None (Some (pos 0)) text
meets_integer NegativeInteger text = is_between None (Some (negsuc 0)) text
meets_integer NonNegativeInteger text = is_between (Some (pos 0)) None text
meets_integer PositiveInteger text = is_between (Some (pos 1)) None text
meets_integer Long text = is_between (Some (negsuc 9223372036854775807)) (Some (pos 9223372036854775807)) text
meets_integer Int text = is_between (Some (negsuc 2147483647)) (Some (pos 2147483647)) text
meets_integer Short text = is_between (Some (negsuc 32767)) (Some (pos 32767)) text
meets_integer Byte text = is_between (Some (negsuc 127)) (Some (pos 127)) text
meets_integer UnsignedLong text = is_between (Some (pos 0)) (Some (pos 18446744073709551615)) text
meets_integer UnsignedInt text = is_between (Some (pos 0)) (Some (pos 4294967295)) text
meets_integer UnsignedShort text = is_between (Some (pos 0)) (Some (pos 65535)) text
meets_integer UnsignedByte text = is_between (Some (pos 0)) (Some (pos 255)) text
meets_integer _ text = false

-- white space at the ends is dropped before, but for the string types, which any text meets
abbrev pub meets_kind : BuiltIn → List ℕ → Bool
meets_kind Text text = true
meets_kind NormalizedString text = true
meets_kind Token text = true
meets_kind AnyUri text = true
meets_kind ListItems text = true
meets_kind ListItem text = not (is_empty text) && not (has_space text)
meets_kind Boolean text = is_boolean text
meets_kind Decimal text = is_decimal text
meets_kind Date text = is_date text
meets_kind Time text = is_time text
meets_kind DateTime text = is_date_time text
meets_kind GYear text = is_g_year text
meets_kind GYearMonth text = is_g_year_month text
meets_kind GMonth text = is_g_month text
meets_kind GMonthDay text = is_g_month_day text
meets_kind GDay text = is_g_day text
meets_kind Duration text = is_duration text
meets_kind DayTimeDuration text = is_day_time_duration text
meets_kind YearMonthDuration text = is_year_month_duration text
meets_kind HexBinary text = is_hex text
meets_kind NCName text = is_name_part text
meets_kind Name text = is_name text
meets_kind QName text = is_q_name text
meets_kind kind text = meets_integer kind text

-- a type's texts: those of its kind without white space at their ends, and the empty text where it is permitted
abbrev pub meets_type : SimpleType → List ℕ → Bool
meets_type type text = (type.may_be_empty && is_empty (trimmed text)) || meets_kind type.kind (trimmed text)

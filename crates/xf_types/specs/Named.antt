-- The simple types and their names (XML Schema part 2, section 3; XForms 1.1, section 5).
use Rattle.std.specs.Prelude.{ℕ, ◌/◌, ◌%◌, ◌==◌, Bool, true, false, ◌||◌, if◌then◌else◌, List, [], ◌∷◌, get_or, slice_get, bytes_eq, codes, Option, Some, None}
use Rattle.xf_num.specs.Written.{is_empty}
use Rattle.xf_table.specs.Rows.{Entry, code_of}
use Rattle.xf_table.specs.Contents.{type_entries}
use Rattle.xf_types.specs.declared.kind.BuiltIn.{BuiltIn}
use Rattle.xf_types.specs.declared.kind.BuiltIn.TheVariants.{NCName, Name, QName, AnyUri, Boolean, Byte, Date, DateTime, DayTimeDuration, Decimal, Duration, GDay, GMonth, GMonthDay, GYear, GYearMonth, HexBinary, Int, Integer, ListItem, ListItems, Long, NegativeInteger, NonNegativeInteger, NonPositiveInteger, NormalizedString, PositiveInteger, Short, Text, Time, Token, UnsignedByte, UnsignedInt, UnsignedLong, UnsignedShort, YearMonthDuration}
use Rattle.xf_types.specs.declared.kind.SimpleType.{SimpleType}

-- the types in the order of the table of types
abbrev pub kinds : List BuiltIn
kinds =
    NCName ∷ Name ∷ QName ∷ AnyUri ∷ Boolean ∷ Byte ∷ Date ∷ DateTime ∷ DayTimeDuration ∷ Decimal ∷ Duration ∷ GDay ∷ GMonth ∷ GMonthDay
    ∷ GYear ∷ GYearMonth ∷ HexBinary ∷ Int ∷ Integer ∷ ListItem ∷ ListItems ∷ Long ∷ NegativeInteger ∷ NonNegativeInteger
    ∷ NonPositiveInteger ∷ NormalizedString ∷ PositiveInteger ∷ Short ∷ Text ∷ Time ∷ Token ∷ UnsignedByte ∷ UnsignedInt ∷ UnsignedLong
    ∷ UnsignedShort ∷ YearMonthDuration ∷ []

abbrev pub schema_uri : List ℕ
schema_uri = codes "http://www.w3.org/2001/XMLSchema"

abbrev pub forms_uri : List ℕ
forms_uri = codes "http://www.w3.org/2002/xforms"

-- what marks a row of the table, none where there is no row
abbrev pub marks_in : Option Entry → ℕ
marks_in None = 0
marks_in (Some entry) = entry.marks

-- the first mark: XML Schema has a type of this name
abbrev pub is_in_schema : ℕ → Bool
is_in_schema marks = marks % 2 == 1

-- the second mark: XForms has one
abbrev pub is_in_forms : ℕ → Bool
is_in_forms marks = marks / 2 % 2 == 1

-- the type of a row in a namespace, by its marks; a name without one is that of XForms, whose types permit the empty text
abbrev pub type_in : List ℕ → ℕ → BuiltIn → Option SimpleType
type_in uri marks kind =
    if bytes_eq uri schema_uri then (if is_in_schema marks then Some (record { kind = kind; may_be_empty = false }) else None)
    else (if bytes_eq uri forms_uri || is_empty uri
    then (if is_in_forms marks then Some (record { kind = kind; may_be_empty = true }) else None)
    else None)

abbrev pub type_by_code : List ℕ → Option ℕ → Option SimpleType
type_by_code uri None = None
type_by_code uri (Some code) = type_in uri (marks_in (slice_get type_entries code)) (get_or kinds code NCName)

-- the type that a namespace and a local name mean
abbrev pub type_named : List ℕ → List ℕ → Option SimpleType
type_named uri local = type_by_code uri (code_of local type_entries)

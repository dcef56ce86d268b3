-- Facets (XML Schema part 2, section 4.3), and which texts meet a type by restriction: after its white space rule the text meets the built-in
-- type at the end of its bases and every facet on the way. The empty text meets each type that ends in one of XForms.
use Rattle.std.specs.Prelude.{ℕ, ◌/◌, Bool, true, false, ◌&&◌, ◌||◌, not, ◌==◌, nat_le, List, [], ◌∷◌, find, length, bytes_eq, chars, unwrap_or, slice_get, Option, Some, None, if◌then◌else◌}
use Rattle.std.specs.List.{list_all, list_any}
use Rattle.std.specs.Str.Parse.{digits_value}
use Rattle.xf_num.specs.Written.{is_empty, after_digits}
use Rattle.xf_types.specs.declared.kind.BuiltIn.{BuiltIn}
use Rattle.xf_types.specs.declared.kind.BuiltIn.TheVariants.{Byte, Decimal, HexBinary, Int, Integer, Long, NegativeInteger, NonNegativeInteger, NonPositiveInteger, PositiveInteger, Short, UnsignedByte, UnsignedInt, UnsignedLong, UnsignedShort}
use Rattle.xf_types.specs.declared.kind.SimpleType.{SimpleType}
use Rattle.xf_types.specs.Meets.{meets_type}
use Rattle.xf_schema.specs.declared.spaces.Space.{Space}
use Rattle.xf_schema.specs.declared.written.Facet.{Facet}
use Rattle.xf_schema.specs.declared.written.FacetKind.{FacetKind}
use Rattle.xf_schema.specs.declared.written.FacetKind.TheVariants.{Length, MinLength, MaxLength, Enumeration, MinInclusive, MaxInclusive, MinExclusive, MaxExclusive, TotalDigits, FractionDigits, WhiteSpace}
use Rattle.xf_schema.specs.declared.written.NamedType.{NamedType}
use Rattle.xf_schema.specs.declared.written.NamedType.TheVariants.{BuiltIn as built_in, Declared}
use Rattle.xf_schema.specs.declared.written.Restriction.{Restriction}
use Rattle.xf_schema.specs.Decimals as decimals
use Rattle.xf_schema.specs.Decimals.{decimal_of, is_less, is_same, total_digits}
use Rattle.xf_schema.specs.Spaces.{space_named, under, usual_space}
use Rattle.xf_schema.specs.Types.{end_of, way}

-- ---- sorts of built-in types

-- a decimal, or one of the integers
abbrev pub is_decimal_kind : BuiltIn → Bool
is_decimal_kind Decimal = true
is_decimal_kind Integer = true
is_decimal_kind NonPositiveInteger = true
is_decimal_kind NegativeInteger = true
is_decimal_kind NonNegativeInteger = true
is_decimal_kind PositiveInteger = true
is_decimal_kind Long = true
is_decimal_kind Int = true
is_decimal_kind Short = true
is_decimal_kind Byte = true
is_decimal_kind UnsignedLong = true
is_decimal_kind UnsignedInt = true
is_decimal_kind UnsignedShort = true
is_decimal_kind UnsignedByte = true
is_decimal_kind kind = false

-- ---- numbers

-- a whole number of one to five digits
abbrev pub count_of : List ℕ → Option ℕ
count_of text = if is_empty (after_digits text) && not (is_empty text) && nat_le (length text) 5 then Some (digits_value 10 text) else None

-- how long a text is: in characters, and of hexadecimal digits in octets
abbrev pub length_of : BuiltIn → List ℕ → ℕ
length_of HexBinary text = length text / 2
length_of kind text = length (chars text)

-- the number passes the test
abbrev pub counts : (ℕ → Bool) → Option ℕ → Bool
counts test None = false
counts test (Some n) = test n

-- both are decimals that pass the test
abbrev pub compares : (decimals.Decimal → decimals.Decimal → Bool) → Option decimals.Decimal → Option decimals.Decimal → Bool
compares test None second = false
compares test (Some x) None = false
compares test (Some x) (Some y) = test x y

abbrev pub counts_digits : (decimals.Decimal → ℕ) → Option ℕ → Option decimals.Decimal → Bool
counts_digits digits None x = false
counts_digits digits (Some n) None = false
counts_digits digits (Some n) (Some x) = nat_le (digits x) n

-- ---- bounds and digits, on a text under its white space rule

abbrev pub at_least : List ℕ → List ℕ → Bool
at_least value text = compares (λ x y. not (is_less y x)) (decimal_of value) (decimal_of text)

abbrev pub at_most : List ℕ → List ℕ → Bool
at_most value text = compares (λ x y. not (is_less x y)) (decimal_of value) (decimal_of text)

abbrev pub above : List ℕ → List ℕ → Bool
above value text = compares (λ x y. is_less x y) (decimal_of value) (decimal_of text)

abbrev pub below : List ℕ → List ℕ → Bool
below value text = compares (λ x y. is_less y x) (decimal_of value) (decimal_of text)

abbrev pub within_digits : List ℕ → List ℕ → Bool
within_digits value text = counts_digits total_digits (count_of value) (decimal_of text)

abbrev pub within_fraction : List ℕ → List ℕ → Bool
within_fraction value text = counts_digits (λ x. length x.fraction) (count_of value) (decimal_of text)

-- ---- one facet by itself

abbrev pub meets_facet : BuiltIn → FacetKind → List ℕ → List ℕ → Bool
meets_facet kind Length value text = counts (λ n. length_of kind text == n) (count_of value)
meets_facet kind MinLength value text = counts (λ n. nat_le n (length_of kind text)) (count_of value)
meets_facet kind MaxLength value text = counts (λ n. nat_le (length_of kind text) n) (count_of value)
meets_facet kind MinInclusive value text = at_least value text
meets_facet kind MaxInclusive value text = at_most value text
meets_facet kind MinExclusive value text = above value text
meets_facet kind MaxExclusive value text = below value text
meets_facet kind TotalDigits value text = within_digits value text
meets_facet kind FractionDigits value text = within_fraction value text
meets_facet kind Enumeration value text = true
meets_facet kind WhiteSpace value text = true

-- ---- the enumerations of one restriction, as one

abbrev pub is_enumeration : FacetKind → Bool
is_enumeration Enumeration = true
is_enumeration kind = false

-- an equal decimal where the built-in type is one of decimals, else an equal text
abbrev pub is_equal : BuiltIn → List ℕ → List ℕ → Bool
is_equal kind value text = if is_decimal_kind kind then compares is_same (decimal_of value) (decimal_of text) else bytes_eq value text

-- the text is one of them, where there are any
abbrev pub meets_enumerations : BuiltIn → List Facet → List ℕ → Bool
meets_enumerations kind facets text =
    not (list_any (λ f. is_enumeration f.kind) facets) || list_any (λ f. is_enumeration f.kind && is_equal kind f.value text) facets

-- ---- a restriction, and all on the way

abbrev pub meets_restriction : BuiltIn → List ℕ → Restriction → Bool
meets_restriction kind text r = list_all (λ f. meets_facet kind f.kind f.value text) r.facets && meets_enumerations kind r.facets text

abbrev pub is_white_space : FacetKind → Bool
is_white_space WhiteSpace = true
is_white_space kind = false

abbrev pub space_in : Option Facet → Option Space
space_in None = None
space_in (Some f) = space_named f.value

-- the rule that a restriction has, by its first facet of white space
abbrev pub own_space : Restriction → Option Space
own_space r = space_in (find (λ f. is_white_space f.kind) r.facets)

abbrev pub or_further : Option Space → Option Space → Option Space
or_further None further = further
or_further (Some space) further = Some space

-- that of the nearest one that has any
abbrev pub nearest_space : List Restriction → Option Space
nearest_space [] = None
nearest_space (r ∷ rs) = or_further (own_space r) (nearest_space rs)

-- else that of the built-in type at the end
abbrev pub space_on : List Restriction → BuiltIn → Space
space_on on_way kind = unwrap_or (nearest_space on_way) (usual_space kind)

-- a text under its rule meets what is on the way, and the built-in type at the end
abbrev pub meets_under : SimpleType → List Restriction → List ℕ → Bool
meets_under end on_way text =
    (end.may_be_empty && is_empty text) || (meets_type end text && list_all (meets_restriction end.kind text) on_way)

abbrev pub meets_way : Option SimpleType → List Restriction → List ℕ → Bool
meets_way None on_way text = false
meets_way (Some end) on_way text = meets_under end on_way (under (space_on on_way end.kind) text)

-- a restriction, as one of these types
abbrev pub meets_type_of : List Restriction → Restriction → List ℕ → Bool
meets_type_of types r text = meets_way (end_of (length types) types r.base) (r ∷ way (length types) types r.base) text

abbrev pub meets_some : List Restriction → Option Restriction → List ℕ → Bool
meets_some types None text = false
meets_some types (Some r) text = meets_type_of types r text

-- the text meets the type of this number
abbrev pub meets_named : List Restriction → ℕ → List ℕ → Bool
meets_named types number text = meets_some types (slice_get types number) text

-- ---- a type that is named, among those of a form

abbrev pub is_of_type : List Restriction → NamedType → List ℕ → Bool
is_of_type types (built_in type) text = meets_type type text
is_of_type types (Declared number) text = meets_named types number text

-- The place of the first element of the schemas of a form, in document order, that breaks one of their rules.
use Rattle.std.specs.Prelude.{ℕ, suc, Bool, true, false, ◌||◌, not, ◌==◌, nat_lt, List, [], ◌∷◌, take, find, is_some, length, Option, Some, None, option_map, if◌then◌else◌}
use Rattle.std.specs.List.{list_any}
use Rattle.xf_types.specs.declared.kind.BuiltIn.{BuiltIn}
use Rattle.xf_types.specs.declared.kind.BuiltIn.TheVariants.{AnyUri, HexBinary, NormalizedString, Text, Token}
use Rattle.xf_types.specs.declared.kind.SimpleType.{SimpleType}
use Rattle.xf_schema.specs.declared.written.Facet.{Facet}
use Rattle.xf_schema.specs.declared.written.FacetKind.{FacetKind}
use Rattle.xf_schema.specs.declared.written.FacetKind.TheVariants.{Length, MinLength, MaxLength, Enumeration, MinInclusive, MaxInclusive, MinExclusive, MaxExclusive, TotalDigits, FractionDigits, WhiteSpace}
use Rattle.xf_schema.specs.declared.written.NamedType.{NamedType}
use Rattle.xf_schema.specs.declared.written.NamedType.TheVariants.{BuiltIn as built_in, Declared}
use Rattle.xf_schema.specs.declared.written.Restriction.{Restriction}
use Rattle.xf_schema.specs.Decimals.{is_decimal_text}
use Rattle.xf_schema.specs.Facets.{count_of, is_decimal_kind}
use Rattle.xf_schema.specs.Spaces.{space_named}
use Rattle.xf_schema.specs.Types.{end_of, is_endless, is_named}

-- ---- facets

abbrev pub is_string_kind : BuiltIn → Bool
is_string_kind Text = true
is_string_kind NormalizedString = true
is_string_kind Token = true
is_string_kind kind = false

-- lengths are those of strings, addresses and octets
abbrev pub has_length : BuiltIn → Bool
has_length AnyUri = true
has_length HexBinary = true
has_length kind = is_string_kind kind

-- the built-in type is there and fails the test
abbrev pub fails : (BuiltIn → Bool) → Option SimpleType → Bool
fails test None = false
fails test (Some end) = not (test end.kind)

abbrev pub is_zero : Option ℕ → Bool
is_zero None = false
is_zero (Some n) = n == 0

abbrev pub is_bad_length : Option SimpleType → List ℕ → Bool
is_bad_length end value = not (is_some (count_of value)) || fails has_length end

abbrev pub is_bad_bound : Option SimpleType → List ℕ → Bool
is_bad_bound end value = not (is_decimal_text value) || fails is_decimal_kind end

abbrev pub is_bad_digits : Option SimpleType → List ℕ → Bool
is_bad_digits end value = not (is_some (count_of value)) || fails is_decimal_kind end

abbrev pub is_bad_space : Option SimpleType → List ℕ → Bool
is_bad_space end value = not (is_some (space_named value)) || fails is_string_kind end

-- a facet with this value, where the bases end in this type
abbrev pub is_bad_facet : Option SimpleType → FacetKind → List ℕ → Bool
is_bad_facet end Length value = is_bad_length end value
is_bad_facet end MinLength value = is_bad_length end value
is_bad_facet end MaxLength value = is_bad_length end value
is_bad_facet end MinInclusive value = is_bad_bound end value
is_bad_facet end MaxInclusive value = is_bad_bound end value
is_bad_facet end MinExclusive value = is_bad_bound end value
is_bad_facet end MaxExclusive value = is_bad_bound end value
is_bad_facet end TotalDigits value = is_zero (count_of value) || is_bad_digits end value
is_bad_facet end FractionDigits value = is_bad_digits end value
is_bad_facet end WhiteSpace value = is_bad_space end value
is_bad_facet end Enumeration value = false

-- the first of these facets that is bad
abbrev pub bad_facet_among : Option SimpleType → List Facet → Option ℕ
bad_facet_among end facets = option_map (λ f. f.place) (find (λ f. is_bad_facet end f.kind f.value) facets)

-- ---- a simple type

-- the base is no type, or the way from it has no end
abbrev pub is_bad_base_by : Bool → Option NamedType → Bool
is_bad_base_by endless None = true
is_bad_base_by endless (Some (built_in type)) = false
is_bad_base_by endless (Some (Declared n)) = endless

abbrev pub is_bad_base : List Restriction → Restriction → Bool
is_bad_base types r = is_bad_base_by (is_endless (length types) types r.base) r.base

-- one of these has its name
abbrev pub is_named_among : List Restriction → Restriction → Bool
is_named_among before r = list_any (λ b. is_named r.name.space r.name.local b.name) before

-- the first bad one of the simple type, its restriction and its facets, where these types stand before it
abbrev pub bad_in : List Restriction → List Restriction → Restriction → Option ℕ
bad_in types before r =
    if is_named_among before r then Some r.type_place else (if is_bad_base types r then Some r.place else bad_facet_among (end_of (length types) types r.base) r.facets)

abbrev pub or_next : Option ℕ → Option ℕ → Option ℕ
or_next None next = next
or_next (Some place) next = Some place

-- of the types from the number n on
abbrev pub first_bad_from : List Restriction → ℕ → List Restriction → Option ℕ
first_bad_from types n [] = None
first_bad_from types n (r ∷ rs) = or_next (bad_in types (take n types) r) (first_bad_from types (suc n) rs)

-- ---- all

-- the one that stands first in the document
abbrev pub earlier : Option ℕ → Option ℕ → Option ℕ
earlier None second = second
earlier (Some x) None = Some x
earlier (Some x) (Some y) = if nat_lt y x then Some y else Some x

-- of all that the schemas of a form hold: these types, and the first element that is none of theirs by itself, if there is one
abbrev pub first_bad : List Restriction → Option ℕ → Option ℕ
first_bad types strange = earlier strange (first_bad_from types 0 types)

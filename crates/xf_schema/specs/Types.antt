-- Types by restriction and the types that they restrict (XML Schema part 2, sections 4.1.2 and 2.5).
use Rattle.std.specs.Prelude.{ℕ, zero, suc, Bool, true, false, ◌&&◌, List, [], ◌∷◌, bytes_eq, slice_get, Option, Some, None, option_map, if◌then◌else◌}
use Rattle.xf_types.specs.declared.kind.SimpleType.{SimpleType}
use Rattle.xf_types.specs.Named.{type_named}
use Rattle.xf_schema.specs.declared.written.NamedType.{NamedType}
use Rattle.xf_schema.specs.declared.written.NamedType.TheVariants.{BuiltIn, Declared}
use Rattle.xf_schema.specs.declared.written.Restriction.{Restriction}
use Rattle.xf_schema.specs.declared.written.TypeName.{TypeName}

-- ---- names

abbrev pub is_named : List ℕ → List ℕ → TypeName → Bool
is_named space local name = bytes_eq name.space space && bytes_eq name.local local

-- the number of the first type of this name, where the first of these has the number n
abbrev pub declared_from : ℕ → List TypeName → List ℕ → List ℕ → Option ℕ
declared_from n [] space local = None
declared_from n (name ∷ names) space local = if is_named space local name then Some n else declared_from (suc n) names space local

abbrev pub declared : List TypeName → List ℕ → List ℕ → Option ℕ
declared names space local = declared_from 0 names space local

abbrev pub type_by : List TypeName → List ℕ → List ℕ → Option SimpleType → Option NamedType
type_by names space local (Some type) = Some (BuiltIn type)
type_by names space local None = option_map Declared (declared names space local)

-- what a name means: a built-in type, else one of those of these names
abbrev pub type_called : List TypeName → List ℕ → List ℕ → Option NamedType
type_called names space local = type_by names space local (type_named space local)

-- ---- from a base to its built-in type, past so many restrictions at most

abbrev pub way_from : (Option NamedType → List Restriction) → Option Restriction → List Restriction
way_from further None = []
way_from further (Some r) = r ∷ further r.base

abbrev pub way_on : (Option NamedType → List Restriction) → List Restriction → Option NamedType → List Restriction
way_on further types (Some (Declared n)) = way_from further (slice_get types n)
way_on further types base = []

-- the restrictions on the way, the nearest first
abbrev pub way : ℕ → List Restriction → Option NamedType → List Restriction
way zero types base = []
way (suc most) types base = way_on (way most types) types base

abbrev pub end_from : (Option NamedType → Option SimpleType) → Option Restriction → Option SimpleType
end_from further None = None
end_from further (Some r) = further r.base

abbrev pub end_on : (Option NamedType → Option SimpleType) → List Restriction → Option NamedType → Option SimpleType
end_on further types None = None
end_on further types (Some (BuiltIn type)) = Some type
end_on further types (Some (Declared n)) = end_from further (slice_get types n)

-- the built-in type at the end
abbrev pub end_of : ℕ → List Restriction → Option NamedType → Option SimpleType
end_of zero types base = None
end_of (suc most) types base = end_on (end_of most types) types base

abbrev pub is_endless_from : (Option NamedType → Bool) → Option Restriction → Bool
is_endless_from further None = false
is_endless_from further (Some r) = further r.base

abbrev pub is_endless_on : (Option NamedType → Bool) → List Restriction → Option NamedType → Bool
is_endless_on further types (Some (Declared n)) = is_endless_from further (slice_get types n)
is_endless_on further types base = false

-- the way has no end
abbrev pub is_endless : ℕ → List Restriction → Option NamedType → Bool
is_endless zero types base = true
is_endless (suc most) types base = is_endless_on (is_endless most types) types base

-- ---- what a base names

abbrev pub built_in_at : Option NamedType → Option SimpleType
built_in_at (Some (BuiltIn type)) = Some type
built_in_at base = None

abbrev pub declared_at : List Restriction → Option NamedType → Option Restriction
declared_at types (Some (Declared n)) = slice_get types n
declared_at types base = None

-- The schemas of a form as they are read (XML Schema part 2, section 4): their types, and the first element that is bad by itself.
use Rattle.std.specs.Prelude.{ℕ, suc, Bool, true, false, not, ◌&&◌, ◌||◌, ◌==◌, if◌then◌else◌, List, [], ◌∷◌, ◌++◌, codes, bytes_eq, filter_map, slice_get, count_by, unwrap_or, is_none, Option, Some, None, option_and_then}
use Rattle.std.specs.List.{list_any, flat_map}
use Rattle.xf_num.specs.Written.{is_empty}
use Rattle.xf_def_syntax.specs.declared.element.Part.{Part}
use Rattle.xf_def_syntax.specs.declared.element.Part.TheVariants as part
use Rattle.xf_name.specs.Bindings.{Bindings}
use Rattle.xf_name.specs.Part.{Kind, no_declaration, of_default, of_prefix, kind_of}
use Rattle.xf_name.specs.declared.lit.Pair.{Pair}
use Rattle.xf_schema.specs.declared.written.Facet.{Facet}
use Rattle.xf_schema.specs.declared.written.NamedType.{NamedType}
use Rattle.xf_schema.specs.declared.written.Restriction.{Restriction}
use Rattle.xf_schema.specs.declared.written.TypeName.{TypeName}
use Rattle.xf_form_vocabulary.specs.Faults.{type_of}
use Rattle.xf_form_vocabulary.specs.declared.tag.Tag.{Tag}
use Rattle.xf_form_vocabulary.specs.declared.tag.Tag.TheVariants as tag
use Rattle.xf_form_refusals.specs.Rows.{Seen, tag_in}
use Rattle.xf_form_refusals.specs.Standing.{is_schema, is_in_schema}

-- ---- sorts of elements

abbrev pub is_simple_type : Tag → Bool
is_simple_type tag.SimpleType = true
is_simple_type t = false

abbrev pub is_restriction : Tag → Bool
is_restriction tag.Restriction = true
is_restriction t = false

-- where in a schema an element may stand: an annotation anywhere
abbrev pub belongs : Tag → Tag → Bool
belongs tag.SimpleType around = is_schema around
belongs tag.Restriction around = is_simple_type around
belongs (tag.Facet kind) around = is_restriction around
belongs tag.Annotation around = true
belongs t around = false

-- ---- attributes, by their written names: those of schemas have no namespace

abbrev pub attribute_in : List ℕ → List Pair → Option (List ℕ)
attribute_in name [] = None
attribute_in name (p ∷ ps) = if bytes_eq p.name name then Some p.text else attribute_in name ps

abbrev pub is_declaration : Kind → Bool
is_declaration no_declaration = false
is_declaration of_default = true
is_declaration (of_prefix name) = true

-- an attribute that is no declaration of a namespace, and has another name
abbrev pub is_other : List ℕ → Pair → Bool
is_other name p = not (is_declaration (kind_of p.name)) && not (bytes_eq p.name name)

-- the attribute that an element needs, beside which it has none; that of an annotation are passed over
abbrev pub needed_of : Tag → Option (List ℕ)
needed_of tag.Schema = Some (codes "targetNamespace")
needed_of tag.SimpleType = Some (codes "name")
needed_of tag.Restriction = Some (codes "base")
needed_of (tag.Facet kind) = Some (codes "value")
needed_of t = None

abbrev pub has_other_attributes : Option (List ℕ) → List Pair → Bool
has_other_attributes None attributes = false
has_other_attributes (Some name) attributes = is_none (attribute_in name attributes) || list_any (is_other name) attributes

-- ---- elements that are bad by themselves

abbrev pub target_of : List Pair → Option (List ℕ)
target_of attributes = attribute_in (codes "targetNamespace") attributes

abbrev pub has_other : Seen → Bool
has_other r = has_other_attributes (needed_of r.tag) r.attributes

-- a schema, whose target namespace is not empty
abbrev pub is_strange_schema : Seen → Bool
is_strange_schema r = is_empty (unwrap_or (target_of r.attributes) []) || has_other r

abbrev pub is_restriction_at : List Seen → Part → Bool
is_restriction_at all p = is_restriction (tag_in all p)

-- a simple type has exactly one restriction in it
abbrev pub has_one_restriction : List Seen → Seen → Bool
has_one_restriction all r = count_by (is_restriction_at all) r.parts == 1

abbrev pub is_strange_within : List Seen → Seen → Bool
is_strange_within all r =
    not (belongs r.tag r.standing.around) || has_other r || (is_simple_type r.tag && not (has_one_restriction all r))

abbrev pub is_strange : List Seen → Seen → Bool
is_strange all r = if is_schema r.tag then is_strange_schema r else is_in_schema r.standing.zone && is_strange_within all r

-- the place of the first of these, where the first of them has the place
abbrev pub strange_from : List Seen → ℕ → List Seen → Option ℕ
strange_from all place [] = None
strange_from all place (r ∷ rs) = if is_strange all r then Some place else strange_from all (suc place) rs

abbrev pub first_strange : List Seen → Option ℕ
first_strange all = strange_from all 0 all

-- ---- the names of types

abbrev pub attributes_at : Option Seen → List Pair
attributes_at None = []
attributes_at (Some r) = r.attributes

abbrev pub target_at : List Seen → Option ℕ → Option (List ℕ)
target_at all None = None
target_at all (Some parent) = target_of (attributes_at (slice_get all parent))

abbrev pub name_by : Option (List ℕ) → Option (List ℕ) → Option TypeName
name_by None local = None
name_by (Some space) None = None
name_by (Some space) (Some local) = if is_empty space then None else Some (record { space = space; local = local })

abbrev pub is_type : Seen → Bool
is_type r = is_simple_type r.tag && is_schema r.standing.around

-- the name of a type; in a schema without a target namespace none has one
abbrev pub name_of : List Seen → Seen → Option TypeName
name_of all r = if is_type r then name_by (target_at all r.standing.parent) (attribute_in (codes "name") r.attributes) else None

abbrev pub names_of : List Seen → List TypeName
names_of all = filter_map (name_of all) all

-- ---- types

-- the place of the first restriction among these
abbrev pub restriction_in : List Seen → List Part → Option ℕ
restriction_in all [] = None
restriction_in all (part.Text text ∷ ps) = restriction_in all ps
restriction_in all (part.Element place ∷ ps) = if is_restriction_at all (part.Element place) then Some place else restriction_in all ps

abbrev pub facet_by : ℕ → List Pair → Tag → List Facet
facet_by place attributes (tag.Facet kind) = record { kind = kind; value = unwrap_or (attribute_in (codes "value") attributes) []; place = place } ∷ []
facet_by place attributes t = []

abbrev pub facet_in : List Seen → Part → List Facet
facet_in all (part.Text text) = []
facet_in all (part.Element place) = facet_by place (attributes_at (slice_get all place)) (tag_in all (part.Element place))

abbrev pub parts_at : Option Seen → List Part
parts_at None = []
parts_at (Some r) = r.parts

-- the type that a restriction has as its base
abbrev pub base_of : Bindings → List TypeName → List Pair → Option NamedType
base_of b names attributes = option_and_then (type_of b names) (attribute_in (codes "base") attributes)

-- a type with its name and its place, and its restriction by its place
abbrev pub type_with : Bindings → List Seen → ℕ → TypeName → Option ℕ → Restriction
type_with b all place name None = record { name = name; type_place = place; base = None; place = place; facets = [] }
type_with b all place name (Some n) = record {
  name = name;
  type_place = place;
  base = base_of b (names_of all) (attributes_at (slice_get all n));
  place = n;
  facets = flat_map (facet_in all) (parts_at (slice_get all n));
}

abbrev pub type_by : Bindings → List Seen → ℕ → Seen → Option TypeName → List Restriction
type_by b all place r None = []
type_by b all place r (Some name) = type_with b all place name (restriction_in all r.parts) ∷ []

abbrev pub type_at : Bindings → List Seen → ℕ → Seen → List Restriction
type_at b all place r = type_by b all place r (name_of all r)

-- of the elements from a place on
abbrev pub types_from : Bindings → List Seen → ℕ → List Seen → List Restriction
types_from b all place [] = []
types_from b all place (r ∷ rs) = type_at b all place r ++ types_from b all (suc place) rs

-- those of all schemas, in document order
abbrev pub types_of : Bindings → List Seen → List Restriction
types_of b all = types_from b all 0 all

-- Model item properties, on small data.
use Rattle.std.proofs.Common.{◌≡◌, ℕ, Bool, true, false, List, [], ◌∷◌, map, Some, None, refl, codes}
use Rattle.xf_types.specs.declared.kind.BuiltIn.TheVariants as built_in
use Rattle.xf_schema.specs.declared.written.FacetKind.TheVariants.{Enumeration}
use Rattle.xf_schema.specs.declared.written.NamedType.TheVariants.{BuiltIn, Declared}
use Rattle.xf_schema.specs.declared.written.Restriction.{Restriction}
use Rattle.xf_schema.specs.Facets.{is_of_type}
use Rattle.xf_def_forest.specs.declared.content.Node.{Node}
use Rattle.xf_def_forest.specs.Visit.{visits}
use Rattle.xf_def_forest.specs.Shape.{shape_of}
use Rattle.xf_def_xpath.specs.Examples.{child, path, number}
use Rattle.xf_def_model.specs.Rules.{Rule}
use Rattle.xf_def_model.specs.Applied.{all_entries}
use Rattle.xf_def_model.specs.Settled.{Valued, bounds, values_over}
use Rattle.xf_def_model.specs.Properties.{properties_at, is_relevant, is_readonly, is_required, is_valid}
use Rattle.xf_def_model.specs.Examples

abbrev values_on : List Node → List Rule → List Valued
values_on ns rules = values_over bounds (Examples.scope rules) (all_entries (Examples.scope rules) (shape_of ns)) (visits ns)

abbrev relevant_on : List Node → List Rule → ℕ → Bool
relevant_on ns rules n = is_relevant (visits ns) (values_on ns rules) n

abbrev readonly_on : List Node → List Rule → ℕ → Bool
readonly_on ns rules n = is_readonly (visits ns) (values_on ns rules) n

abbrev required_on : List Node → List Rule → ℕ → Bool
required_on ns rules n = is_required (values_on ns rules) n

-- a type of the form: the string `1`
abbrev ones : List Restriction
ones = record {
  name = record { space = codes "urn:t"; local = codes "one" };
  type_place = 2;
  base = Some (BuiltIn (record { kind = built_in.Text; may_be_empty = false }));
  place = 3;
  facets = record { kind = Enumeration; value = codes "1"; place = 4 } ∷ [];
} ∷ []

abbrev valid_on : List Node → List Rule → ℕ → Bool
valid_on ns rules n = is_valid (is_of_type ones) (Examples.scope rules) (visits ns) (all_entries (Examples.scope rules) (shape_of ns)) (values_on ns rules) n

abbrev on : List ℕ → Rule
on name = Examples.bind (Examples.to name)

abbrev a : List ℕ
a = codes "a"

abbrev b : List ℕ
b = codes "b"

abbrev g : List ℕ
g = codes "g"

abbrev whole : Rule
whole = Examples.bind (path [])

abbrev x_in_g : Rule
x_in_g = Examples.bind (path (child g ∷ child (codes "x") ∷ []))

-- ---- without a bind

by_default :
    properties_at (is_of_type []) (Examples.scope []) (visits Examples.four) [] [] 2
    ≡ record { relevant = true; readonly = false; required = false; valid = true }
by_default = refl

-- ---- relevance: g relevant false(), g/x relevant true()

abbrev irrelevant : List Rule
irrelevant = Examples.relevant Examples.no (on g) ∷ Examples.relevant Examples.yes x_in_g ∷ []

not_the_node_itself : relevant_on Examples.groups irrelevant 2 ≡ false
not_the_node_itself = refl

-- its own entry is true, and does not help
nor_what_is_below : relevant_on Examples.groups irrelevant 3 ≡ false
nor_what_is_below = refl

nor_its_text : relevant_on Examples.groups irrelevant 4 ≡ false
nor_its_text = refl

but_what_is_beside : relevant_on Examples.groups irrelevant 5 ≡ true
but_what_is_beside = refl

and_what_is_above : relevant_on Examples.groups irrelevant 1 ≡ true
and_what_is_above = refl

-- h irrelevant: its attribute is so too
an_attribute_inherits : relevant_on Examples.groups (Examples.relevant Examples.no (on (codes "h")) ∷ []) 6 ≡ false
an_attribute_inherits = refl

-- a set of nodes is true where it is not empty
by_existence : relevant_on Examples.four (Examples.relevant (Examples.beside (codes "zz")) (on b) ∷ []) 4 ≡ false
by_existence = refl

-- ---- readonly

by_a_calculate : readonly_on Examples.four (Examples.calculate (number 1) (on a) ∷ []) 2 ≡ true
by_a_calculate = refl

lifted : readonly_on Examples.four (Examples.readonly Examples.no (Examples.calculate (number 1) (on a)) ∷ []) 2 ≡ false
lifted = refl

lifted_by_another_bind : readonly_on Examples.four (Examples.readonly Examples.no (on a) ∷ Examples.calculate (number 1) (on a) ∷ []) 2 ≡ false
lifted_by_another_bind = refl

-- what is readonly above cannot be lifted below
of_an_ancestor : readonly_on Examples.groups (Examples.readonly Examples.yes (on g) ∷ Examples.readonly Examples.no x_in_g ∷ []) 3 ≡ true
of_an_ancestor = refl

not_of_what_is_below : readonly_on Examples.groups (Examples.readonly Examples.yes x_in_g ∷ []) 2 ≡ false
not_of_what_is_below = refl

-- h has a calculate: its attribute is readonly
by_a_calculate_above : readonly_on Examples.groups (Examples.calculate (number 1) (on (codes "h")) ∷ []) 6 ≡ true
by_a_calculate_above = refl

-- ---- required, which is not inherited

required_itself : required_on Examples.groups (Examples.required Examples.yes (on g) ∷ []) 2 ≡ true
required_itself = refl

not_below : required_on Examples.groups (Examples.required Examples.yes (on g) ∷ []) 3 ≡ false
not_below = refl

-- ---- validity

required_and_empty : valid_on Examples.four (Examples.required Examples.yes (on b) ∷ []) 4 ≡ false
required_and_empty = refl

required_and_filled : valid_on Examples.four (Examples.required Examples.yes (on a) ∷ []) 2 ≡ true
required_and_filled = refl

against_the_constraint : valid_on Examples.four (Examples.constraint Examples.no (on a) ∷ []) 2 ≡ false
against_the_constraint = refl

-- a constraint is not inherited
constraint_above : valid_on Examples.groups (Examples.constraint Examples.no (on g) ∷ []) 3 ≡ true
constraint_above = refl

-- the type of XForms permits the empty text, that of XML Schema does not
of_the_forms_type : valid_on Examples.four (Examples.typed (Examples.integer true) (on b) ∷ []) 4 ≡ true
of_the_forms_type = refl

of_the_schema_type : valid_on Examples.four (Examples.typed (Examples.integer false) (on b) ∷ []) 4 ≡ false
of_the_schema_type = refl

-- a type of the form by its number: a is `1`, and b is empty
of_a_type_of_the_form : valid_on Examples.four (Examples.typed (Declared 0) (on a) ∷ []) 2 ≡ true
of_a_type_of_the_form = refl

not_of_a_type_of_the_form : valid_on Examples.four (Examples.typed (Declared 0) (on b) ∷ []) 4 ≡ false
not_of_a_type_of_the_form = refl

-- the string value of an element with elements counts
of_a_group : valid_on Examples.groups (Examples.typed (Examples.integer false) (on g) ∷ []) 2 ≡ true
of_a_group = refl

-- ---- entries without a value yet

abbrev without_value : Valued → Valued
without_value v = record v { value = None }

abbrev without_values : List Valued → List Valued
without_values values = map without_value values

as_by_default : is_relevant (visits Examples.groups) (without_values (values_on Examples.groups irrelevant)) 2 ≡ true
as_by_default = refl

-- a readonly entry without a value: the default of a node with a calculate
readonly_for_now : is_readonly (visits Examples.four) (without_values (values_on Examples.four (Examples.readonly Examples.no (Examples.calculate (number 1) (on a)) ∷ []))) 2 ≡ true
readonly_for_now = refl

not_required_yet : is_required (without_values (values_on Examples.four (Examples.required Examples.yes (on a) ∷ []))) 2 ≡ false
not_required_yet = refl

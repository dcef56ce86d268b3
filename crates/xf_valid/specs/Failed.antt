-- How the nodes that are not valid are found: among those of entries, by the roots of their trees.
use Rattle.std.specs.Prelude.{ℕ, suc, Bool, true, false, not, ◌&&◌, ◌||◌, List, [], ◌∷◌, ◌++◌, Option, Some, None, option_and_then, slice_get, ◌==◌, if◌then◌else◌}
use Rattle.std.specs.List.{flat_map}
use Rattle.xf_num.specs.Written.{is_empty}
use Rattle.xf_schema.specs.declared.written.NamedType.{NamedType}
use Rattle.xf_schema.specs.declared.written.Restriction.{Restriction}
use Rattle.xf_schema.specs.Facets.{is_of_type}
use Rattle.xf_def_syntax.specs.declared.form.Bind.{Bind}
use Rattle.xf_def_syntax.specs.declared.form.Instance.{Instance}
use Rattle.xf_def_forest.specs.declared.content.Node.{Node}
use Rattle.xf_def_forest.specs.Changes.{root_of}
use Rattle.xf_def_forest.specs.Forest.{has_number}
use Rattle.xf_def_forest.specs.StringValue.{string_value}
use Rattle.xf_def_forest.specs.Visit.{visits, has, top_of}
use Rattle.xf_def_xpath.specs.Binding.{as_list}
use Rattle.xf_def_model.specs.Applied.{Entry}
use Rattle.xf_def_model.specs.Rules.{Scope}
use Rattle.xf_def_model.specs.declared.property.Property.{Property}
use Rattle.xf_def_model.specs.declared.property.Property.TheVariants.{Kind, Calculate, Relevant, Readonly, Required, Constraint}
use Rattle.xf_def_model.specs.Properties.{kind_of, meets_kind, own}
use Rattle.xf_binds.specs.Held.{is_set}
use Rattle.xf_binds.specs.Kept.{Kept, values_of}
use Rattle.xf_binds.specs.Table.{truth_told}

-- the roots of the model's instances, where the first of these has this place among all
abbrev pub roots_from : ℕ → List Node → ℕ → List Instance → List ℕ
roots_from model nodes place [] = []
roots_from model nodes place (i ∷ is) = (if i.model == model then as_list (root_of place nodes) else []) ++ roots_from model nodes (suc place) is

-- the node stands in the tree of one of these roots
abbrev pub is_under : List Node → List ℕ → ℕ → Bool
is_under nodes roots n = has_number n nodes && has (top_of n (visits nodes)) roots

-- what is told of the property that an entry sets: only a constraint, a requirement or a type can fail
abbrev pub by_property : Bool → Bool → Bool → Property → Bool
by_property constraint required kind Constraint = constraint
by_property constraint required kind Required = required
by_property constraint required kind Kind = kind
by_property constraint required kind Calculate = false
by_property constraint required kind Relevant = false
by_property constraint required kind Readonly = false

-- the node does not meet what is set by its entry of this property
abbrev pub fails : List Restriction → Scope → List Node → Kept → ℕ → Property → Bool
fails types scope nodes k n p =
    by_property (not (own (values_of k) Constraint true n)) (own (values_of k) Required false n && is_empty (string_value n (visits nodes)))
    (not (meets_kind (is_of_type types) (kind_of scope k.entries n) (string_value n (visits nodes)))) p

abbrev pub failed_by : List Restriction → Scope → List Node → List ℕ → Kept → Entry → List ℕ
failed_by types scope nodes roots k e = if is_under nodes roots e.node && fails types scope nodes k e.node e.property then e.node ∷ [] else []

abbrev pub failed_at : List Restriction → Scope → List Node → List ℕ → Kept → Option Entry → List ℕ
failed_at types scope nodes roots k None = []
failed_at types scope nodes roots k (Some e) = failed_by types scope nodes roots k e

abbrev pub failed_among : List Restriction → Scope → List Node → List ℕ → Kept → List Entry → List ℕ
failed_among types scope nodes roots k es = flat_map (failed_by types scope nodes roots k) es

-- the type that a bind gives
abbrev pub kind_in : List Bind → ℕ → Option NamedType
kind_in binds bind = option_and_then (λ b. b.properties.kind) (slice_get binds bind)

-- ---- what an entry whose value has this truth asks of its node

-- there may be a text with which it is not met
abbrev pub can_fail : Property → Option Bool → Bool
can_fail p truth = by_property (not (truth_told true (Some truth))) (truth_told false (Some truth)) true p

-- it is not met with this text
abbrev pub fails_told : List Restriction → List Bind → Entry → Option Bool → List ℕ → Bool
fails_told types binds e truth text =
    by_property (not (truth_told true (Some truth))) (truth_told false (Some truth) && is_empty text) (not (meets_kind (is_of_type types) (kind_in binds e.bind) text)) e.property

-- an entry asks something of its node: only a constraint, a requirement or a type can fail
abbrev pub asks_any : List Entry → Bool
asks_any entries = is_set Constraint entries || is_set Required entries || is_set Kind entries

-- What the binds of a model set on which nodes (XForms 1.1, sections 3.3.4 and 4.3.1): their node sets are selected over the shape of the
-- data. It is an exception where a property is set twice on a node, or a calculate on an element that has elements in it.
use Rattle.std.specs.Prelude.{ℕ, suc, Bool, ◌&&◌, List, [], ◌∷◌, ◌++◌, map, length, filter, Option, Some, None, is_some, unwrap_or, Result, Ok, Err, ◌==◌, if◌then◌else◌}
use Rattle.std.specs.List.{list_any, flat_map, position_or_len}
use Rattle.xf_def_forest.specs.declared.content.Node.{Node}
use Rattle.xf_def_forest.specs.Visit.{Visit, has}
use Rattle.xf_def_forest.specs.Shape.{has_elements, shape_of}
use Rattle.xf_def_xpath.specs.Setting.{in_order, joined}
use Rattle.xf_def_model.specs.declared.property.Property.{Property}
use Rattle.xf_def_model.specs.declared.property.Property.TheVariants.{Kind, Calculate, Relevant, Readonly, Required, Constraint}
use Rattle.xf_def_model.specs.Rules.{Rule, Scope}
use Rattle.xf_def_model.specs.Nested.{sets_of}

-- a property of one node, with its expression or type, which it has from one attribute of one bind
pub record Entry : Type 0 where
  pub node : ℕ
  pub property : Property
  pub bind : ℕ
  -- the node's place in the bind's node set, from 1, and how many nodes that has
  pub position : ℕ
  pub size : ℕ

pub data Exception : Type 0 where
  -- a property is set on a node that has it already
  twice : ℕ → Exception
  -- a calculate is set on a node with element children
  on_parent : ℕ → Exception

-- ---- properties, in the order in which those of one bind are applied to a node

abbrev pub place_of : Property → ℕ
place_of Kind = 0
place_of Calculate = 1
place_of Relevant = 2
place_of Readonly = 3
place_of Required = 4
place_of Constraint = 5

abbrev pub is_property : Property → Property → Bool
is_property p q = place_of p == place_of q

abbrev pub sets : Rule → Property → Bool
sets r Kind = is_some r.kind
sets r Calculate = is_some r.calculate
sets r Relevant = is_some r.relevant
sets r Readonly = is_some r.readonly
sets r Required = is_some r.required
sets r Constraint = is_some r.constraint

abbrev pub properties_of : Rule → List Property
properties_of r = filter (sets r) (Kind ∷ Calculate ∷ Relevant ∷ Readonly ∷ Required ∷ Constraint ∷ [])

-- ---- what one bind sets

-- where a node stands in a set that holds it, and the size of the set
abbrev pub standing_in : ℕ → List ℕ → List (ℕ × ℕ)
standing_in n set = if has n set then (suc (position_or_len (λ m. m == n) set), length set) ∷ [] else []

abbrev pub entry_of : ℕ → Property → ℕ → ℕ × ℕ → Entry
entry_of bind property n standing = record { node = n; property = property; bind = bind; position = standing.0; size = standing.1 }

-- one from each set that holds the node
abbrev pub entries_at : ℕ → List (List ℕ) → ℕ → Property → List Entry
entries_at bind sets n property = map (entry_of bind property n) (flat_map (standing_in n) sets)

-- its nodes in document order, at each its properties in their order
abbrev pub entries_on : ℕ → List (List ℕ) → List Property → List ℕ → List Entry
entries_on bind sets properties ns = flat_map (λ n. flat_map (entries_at bind sets n) properties) ns

abbrev pub entries_by : Scope → List Visit → ℕ → Rule → List Entry
entries_by scope all bind r =
    let sets = unwrap_or (sets_of None scope all r) [] in entries_on bind sets (properties_of r) (in_order all (joined sets))

-- ---- what all binds of the model set, in document order of these

abbrev pub entries_from : Scope → List Visit → ℕ → List Rule → List Entry
entries_from scope all bind [] = []
entries_from scope all bind (r ∷ rs) =
    (if r.model == scope.model then entries_by scope all bind r else []) ++ entries_from scope all (suc bind) rs

-- over the visits of a shape
abbrev pub all_entries : Scope → List Visit → List Entry
all_entries scope all = entries_from scope all 0 scope.rules

-- ---- exceptions

abbrev pub is_calculate : Entry → Bool
is_calculate e = is_property e.property Calculate

-- both set the same property of the same node
abbrev pub sets_same : Entry → Entry → Bool
sets_same e other = (e.node == other.node) && is_property e.property other.property

abbrev pub exception_at : List Visit → List Entry → Entry → Option Exception
exception_at all earlier e =
    if list_any (sets_same e) earlier then Some (twice e.node)
    else if is_calculate e && has_elements all e.node then Some (on_parent e.node)
    else None

abbrev pub or_later : Option Exception → Option Exception → Option Exception
or_later None later = later
or_later (Some x) later = Some x

-- the first one, in the order of the entries
abbrev pub exception_from : List Visit → List Entry → List Entry → Option Exception
exception_from all earlier [] = None
exception_from all earlier (e ∷ es) = or_later (exception_at all earlier e) (exception_from all (e ∷ earlier) es)

abbrev pub unless : {X : Type 0} → Option Exception → X → Result X Exception
unless None value = Ok value
unless (Some x) value = Err x

-- the entries and types that the binds set, or the first exception
abbrev pub applied_over : Scope → List Visit → Result (List Entry) Exception
applied_over scope all = let entries = all_entries scope all in unless (exception_from all [] entries) entries

abbrev pub applied : Scope → List Node → Result (List Entry) Exception
applied scope nodes = applied_over scope (shape_of nodes)

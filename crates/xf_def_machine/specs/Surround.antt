-- What surrounds the expressions of a form in a state (XForms 1.1, section 7), and in which instance and model a node stands.
use Rattle.std.specs.Prelude.{ℕ, List, [], ◌∷◌, Option, Some, None, option_map, option_and_then, slice_get}
use Rattle.std.specs.List.{flat_map}
use Rattle.xf_def_syntax.specs.declared.form.Instance.{Instance}
use Rattle.xf_def_syntax.specs.Ordered.{numbered_from}
use Rattle.xf_def_forest.specs.Visit.{Visit, visits, first_of, top_of, children_of}
use Rattle.xf_def_forest.specs.Changes.{root_of}
use Rattle.xf_def_forest.specs.Order.{instance_of}
use Rattle.xf_def_xpath.specs.declared.value.Value.{Value}
use Rattle.xf_def_xpath.specs.Given.{Document, Given}
use Rattle.xf_def_model.specs.Rules.{Scope, for_binds}
use Rattle.xf_def_model.specs.Nested.{nested}
use Rattle.xf_def_ui.specs.Interface.{Interface}
use Rattle.xf_def_ui.specs.Around.{Around}
use Rattle.xf_def_ui.specs.Index.{named_indexes}
use Rattle.xf_def_machine.specs.Profile.{Profile}
use Rattle.xf_def_machine.specs.State.{State}

-- the properties of an event that is handled
abbrev pub Told : Type 0
Told = List (List ℕ × Value)

-- the elements of the form
abbrev pub interface : State → Interface
interface s = s.form.interface

-- its instances
abbrev pub instances_in : State → List Instance
instances_in s = s.form.instances

-- the visits of the data
abbrev pub all_in : State → List Visit
all_in s = visits s.forest.nodes

-- ---- instances

-- that of a root
abbrev pub document_under : State → Option ℕ → Option ℕ
document_under s None = None
document_under s (Some root) = first_of (children_of root (all_in s))

-- the document element of an instance
abbrev pub document_at : State → ℕ → Option ℕ
document_at s place = document_under s (root_of place s.forest.nodes)

-- as one of the documents that expressions may name
abbrev pub document_in : Instance → Option ℕ → List Document
document_in i None = []
document_in i (Some n) = record { model = i.model; id = i.id; element = n } ∷ []

-- those of all instances that have one
abbrev pub documents : State → List Document
documents s = flat_map (λ i. document_in i.1 (document_at s i.0)) (numbered_from 0 (instances_in s))

-- the instance in which a node stands: none for a node of a detached tree
abbrev pub instance_holding : State → ℕ → Option ℕ
instance_holding s n = instance_of (top_of n (all_in s)) s.forest.nodes

-- the model of the instance at this place
abbrev pub model_of_instance : State → ℕ → Option ℕ
model_of_instance s place = option_map (λ i. i.model) (slice_get (instances_in s) place)

-- the model whose instance holds a node
abbrev pub model_holding : State → ℕ → Option ℕ
model_holding s n = option_and_then (model_of_instance s) (instance_holding s n)

-- ---- surroundings

-- what is given to the expressions of a form, within an event or outside
abbrev pub given : State → Option Told → Given
given s event = record {
  documents = documents s;
  indexes = named_indexes (interface s) s.indexes;
  event = event;
  bindings = s.form.bindings;
  decimals = s.form.decimals;
}

-- of the expressions of a model's submissions: outside an event
abbrev pub scope : Profile → State → ℕ → Scope
scope p s model = record { functions = p.functions; given = given s None; model = model; rules = s.form.rules }

-- of its binds: these see no index, and no event
abbrev pub bind_scope : Profile → State → ℕ → Scope
bind_scope p s model = for_binds (scope p s model)

-- all that surrounds them
abbrev pub around : Profile → State → Option Told → Around
around p s event = record {
  functions = p.functions;
  most = Some p.bounds.string;
  given = given s event;
  all = all_in s;
  bound = λ k. nested (Some p.bounds.string) (bind_scope p s 0) (all_in s) k;
}

-- outside an event
abbrev pub quiet : Profile → State → Around
quiet p s = around p s None

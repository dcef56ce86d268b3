-- The elements of a form (XForms 1.1, sections 8 and 9), each expression in place of its text with what it means.
use Rattle.std.specs.Prelude.{ℕ, Bool, true, false, List, map, Option, Some, None, option_map, slice_get}
use Rattle.xf_def_syntax.specs.declared.action.Handler.{Handler}
use Rattle.xf_def_syntax.specs.declared.element.Binding.{Binding}
use Rattle.xf_def_syntax.specs.declared.element.Binding.TheVariants.{Absent, Nodes, Bind}
use Rattle.xf_def_syntax.specs.declared.element.Control.{Control}
use Rattle.xf_def_syntax.specs.declared.element.Control.TheVariants as control
use Rattle.xf_def_syntax.specs.declared.element.Element as written
use Rattle.xf_def_syntax.specs.declared.element.Kind.{Kind}
use Rattle.xf_def_syntax.specs.declared.element.Kind.TheVariants as kind
use Rattle.xf_def_syntax.specs.declared.element.Part.{Part}
use Rattle.xf_def_syntax.specs.declared.form.Form.{Form}
use Rattle.xf_def_syntax.specs.declared.form.Selection.{Selection}
use Rattle.xf_def_syntax.specs.declared.form.Selection.TheVariants as selection
use Rattle.xf_def_syntax.specs.declared.form.Submission.{Submission}
use Rattle.xf_def_syntax.specs.declared.form.Tables.{Tables}
use Rattle.xf_def_xpath.specs.Setting.{Meaning}
use Rattle.xf_def_xpath.specs.Meaning.{meaning}

-- what an element binds
pub data Bound : Type 0 where
  unbound : Bound
  -- the nodes that an expression selects
  nodes : Meaning → Bound
  -- those of the bind of this number
  by_bind : ℕ → Bound

-- what an element is
pub data Sort : Type 0 where
  -- it is looked through
  host : Sort
  -- a model, or what stands in one
  other : Sort
  group : Sort
  -- by its number
  switch : ℕ → Sort
  -- whether it is written as selected
  one_case : Bool → Sort
  -- by its number, and the index that it starts at
  repeated : ℕ → ℕ → Sort
  -- an input, secret, textarea, trigger or submit
  field : Sort
  -- with the expression `value`
  output : Option Meaning → Sort
  -- whether several items may be chosen, and whether other texts are allowed
  select : Bool → Bool → Sort
  item : Sort
  itemset : Sort
  choices : Sort
  label : Sort
  -- with the expression `value`
  item_value : Option Meaning → Sort
  -- an output that is part of a text, with the expression `value`
  inline : Option Meaning → Sort
  -- when it is called, where it is a handler
  action : Option Handler → Sort

-- an element of a form; its id is empty where it has none
pub record Element : Type 0 where
  pub id : List ℕ
  pub parent : Option ℕ
  pub parts : List Part
  -- the model that it names
  pub model : Option ℕ
  pub binding : Bound
  pub sort : Sort

-- a form by its elements
pub record Interface : Type 0 where
  -- each at the place of its number
  pub elements : List Element
  -- the elements of the repeats and of the switches, by their numbers
  pub repeats : List ℕ
  pub switches : List ℕ
  -- the model of each bind
  pub bind_models : List ℕ

-- what is written as a binding
abbrev pub bound_of : Binding → Bound
bound_of Absent = unbound
bound_of (Nodes expr) = nodes (meaning expr)
bound_of (Bind k) = by_bind k

-- what a submission is to select, as a binding
abbrev pub selected_of : Selection → Bound
selected_of selection.Whole = unbound
selected_of (selection.Ref expr) = nodes (meaning expr)
selected_of (selection.Bind k) = by_bind k

-- of the submission in the tables of a form
abbrev pub sent_of : Option Submission → Bound
sent_of None = unbound
sent_of (Some s) = selected_of s.selection

-- what a submission binds is what it selects
abbrev pub binding_of : Tables → Kind → Binding → Bound
binding_of tables (kind.Submission k) binding = sent_of (slice_get tables.submissions k)
binding_of tables other_kind binding = bound_of binding

-- the sort of a control or container
abbrev pub sort_of_control : Control → Sort
sort_of_control control.Group = group
sort_of_control (control.Switch k) = switch k
sort_of_control (control.Case is_selected) = one_case is_selected
sort_of_control (control.Repeat k start) = repeated k start
sort_of_control control.Input = field
sort_of_control control.Secret = field
sort_of_control control.Textarea = field
sort_of_control (control.Output expr) = output (option_map meaning expr)
sort_of_control (control.Select is_free) = select true is_free
sort_of_control (control.SelectOne is_free) = select false is_free
sort_of_control control.Trigger = field
sort_of_control (control.Submit k) = field

-- the sort of an element
abbrev pub sort_of : Kind → Sort
sort_of kind.Host = host
sort_of (kind.Model k) = other
sort_of (kind.Instance k) = other
sort_of (kind.Bind k) = other
sort_of (kind.Submission k) = other
sort_of (kind.Control place c) = sort_of_control c
sort_of kind.Item = item
sort_of kind.Itemset = itemset
sort_of kind.Choices = choices
sort_of kind.Label = label
sort_of (kind.Value expr) = item_value (option_map meaning expr)
sort_of (kind.Output expr) = inline (option_map meaning expr)
sort_of (kind.Action a) = action a.handler

-- an element, by the tables of its form
abbrev pub element_of : Tables → written.Element → Element
element_of tables e = record {
  id = e.id;
  parent = e.parent;
  parts = e.parts;
  model = e.model;
  binding = binding_of tables e.kind e.binding;
  sort = sort_of e.kind;
}

-- the elements of a form as they are seen here
abbrev pub interface_of : Form → Interface
interface_of form = record {
  elements = map (element_of form.tables) form.elements;
  repeats = form.repeats;
  switches = form.switches;
  bind_models = map (λ b. b.model) form.tables.binds;
}

-- The elements of a form (XForms 1.1, sections 3, 8 and 9): what each binds, what stands in it, and what it is.
use Rattle.std.specs.Prelude.{ℕ, ◌+◌, ◌-◌, ◌*◌, Bool, false, List, [], ◌∷◌, codes, flat_map, slice_get, Option, Some, None, option_map, if◌then◌else◌}
use Rattle.xf_def_syntax.specs.declared.element.Binding.{Binding}
use Rattle.xf_def_syntax.specs.declared.element.Binding.TheVariants as binding
use Rattle.xf_def_syntax.specs.declared.element.Control.{Control}
use Rattle.xf_def_syntax.specs.declared.element.Control.TheVariants as control
use Rattle.xf_def_syntax.specs.declared.element.Element.{Element}
use Rattle.xf_def_syntax.specs.declared.element.Kind.{Kind}
use Rattle.xf_def_syntax.specs.declared.element.Kind.TheVariants as kind
use Rattle.xf_def_syntax.specs.declared.element.Part.{Part}
use Rattle.xf_def_syntax.specs.declared.element.Part.TheVariants as part
use Rattle.xf_def_syntax.specs.declared.expr.Expr.{Expr}
use Rattle.xf_name.specs.Bindings.{Bindings}
use Rattle.xf_form_vocabulary.specs.Attributes.{Shown, known_in, text_in}
use Rattle.xf_form_vocabulary.specs.Classes.{is_counted}
use Rattle.xf_form_vocabulary.specs.Rules.{is_expression}
use Rattle.xf_form_vocabulary.specs.Texts.{is_count}
use Rattle.xf_form_vocabulary.specs.declared.attribute.TheConstants as at
use Rattle.xf_form_vocabulary.specs.declared.tag.Tag.{Tag}
use Rattle.xf_form_vocabulary.specs.declared.tag.Tag.TheVariants as tag
use Rattle.xf_form_refusals.specs.declared.classes.Class.TheVariants as class
use Rattle.xf_form_refusals.specs.Rows.{Seen, is_numbered, is_inline}
use Rattle.xf_form.specs.Numbers.{number_among, number_of, named}
use Rattle.xf_form.specs.Written.{expr_at, is_text, id_at}
use Rattle.xf_form.specs.Scopes.{own_model}
use Rattle.xf_form.specs.Models.{id_of}
use Rattle.xf_form.specs.Actions.{or_else, submission_at, action_of}

-- ---- what stands in it

abbrev pub has_number : Option Seen → Bool
has_number None = false
has_number (Some r) = is_numbered r

abbrev pub part_of : List Seen → Part → List Part
part_of all (part.Text text) = part.Text text ∷ []
part_of all (part.Element place) = if has_number (slice_get all place) then part.Element (number_of all place) ∷ [] else []

-- elements by their numbers; what is passed over has none
abbrev pub parts_of : List Seen → List Part → List Part
parts_of all ps = flat_map (part_of all) ps

-- ---- what it binds

abbrev pub by_nodes : Option Expr → Binding
by_nodes None = binding.Absent
by_nodes (Some expr) = binding.Nodes expr

abbrev pub nodes_at : ℕ → Bindings → List Shown → ℕ → Binding
nodes_at d b known code = by_nodes (expr_at d b known code)

abbrev pub nodes_of : ℕ → Bindings → Tag → List Shown → Binding
nodes_of d b t known = if is_expression t at.REF then nodes_at d b known at.REF else (if is_expression t at.NODESET then nodes_at d b known at.NODESET else binding.Absent)

-- `bind` goes before `ref` and `nodeset`
abbrev pub binding_by : ℕ → Bindings → List Seen → Tag → List Shown → Option (List ℕ) → Binding
binding_by d b all t known (Some id) = binding.Bind (named class.Bind all id)
binding_by d b all t known None = nodes_of d b t known

abbrev pub binding_at : ℕ → Bindings → List Seen → Tag → List Shown → Binding
binding_at d b all t known = binding_by d b all t known (id_at t known at.BIND)

-- what a bind and a submission select stands in their tables
abbrev pub binding_of : ℕ → Bindings → List Seen → Tag → List Shown → Binding
binding_of d b all tag.Bind known = binding.Absent
binding_of d b all tag.Submission known = binding.Absent
binding_of d b all t known = binding_at d b all t known

-- ---- controls

-- the number that digits are, behind those of another
abbrev pub read_on : ℕ → List ℕ → ℕ
read_on n [] = n
read_on n (digit ∷ digits) = read_on (10 * n + (digit - 48)) digits

-- the index that a repeat starts at; where it is written otherwise than in one to nine digits, the form is refused
abbrev pub start_of : List ℕ → ℕ
start_of text = if is_count text then read_on 0 text else 1

abbrev pub start_in : Option (List ℕ) → ℕ
start_in None = 1
start_in (Some text) = start_of text

abbrev pub control_of : List Seen → ℕ → Tag → Option ℕ → List Shown → Control
control_of all place tag.Switch first known = control.Switch (number_among class.Switch all place)
control_of all place tag.Case first known = control.Case (is_text known at.SELECTED (codes "true"))
control_of all place tag.Repeat first known = control.Repeat (number_among class.Repeat all place) (start_in (text_in at.START_INDEX known))
control_of all place tag.Input first known = control.Input
control_of all place tag.Secret first known = control.Secret
control_of all place tag.Textarea first known = control.Textarea
control_of all place tag.Select first known = control.Select (is_text known at.SELECTION (codes "open"))
control_of all place tag.SelectOne first known = control.SelectOne (is_text known at.SELECTION (codes "open"))
control_of all place tag.Trigger first known = control.Trigger
control_of all place tag.Submit first known = control.Submit (submission_at all first known)
control_of all place t first known = control.Group

-- the place of a control or container among these, from 1
abbrev pub control_place : List Seen → ℕ → ℕ
control_place all place = number_among class.Control all place + 1

abbrev pub output_of : List Seen → ℕ → Seen → Option Expr → Kind
output_of all place r value = if is_inline r then kind.Output value else kind.Control (control_place all place) (control.Output value)

-- ---- what it is

abbrev pub kind_by_class : ℕ → Bindings → List Seen → ℕ → Seen → Option ℕ → List Shown → Kind
kind_by_class d b all place r first known =
    if is_counted r.tag then kind.Control (control_place all place) (control_of all place r.tag first known) else kind.Action (action_of d b all r first known)

abbrev pub kind_by : ℕ → Bindings → List Seen → ℕ → Seen → Option ℕ → List Shown → Tag → Kind
kind_by d b all place r first known tag.Host = kind.Host
kind_by d b all place r first known tag.Unknown = kind.Host
kind_by d b all place r first known tag.Model = kind.Model (number_among class.Model all place)
kind_by d b all place r first known tag.Instance = kind.Instance (number_among class.Instance all place)
kind_by d b all place r first known tag.Bind = kind.Bind (number_among class.Bind all place)
kind_by d b all place r first known tag.Submission = kind.Submission (number_among class.Submission all place)
kind_by d b all place r first known tag.Item = kind.Item
kind_by d b all place r first known tag.Itemset = kind.Itemset
kind_by d b all place r first known tag.Choices = kind.Choices
kind_by d b all place r first known tag.Label = kind.Label
kind_by d b all place r first known tag.Value = kind.Value (expr_at d b known at.VALUE)
kind_by d b all place r first known tag.Output = output_of all place r (expr_at d b known at.VALUE)
kind_by d b all place r first known t = kind_by_class d b all place r first known

-- an element, by the first submission of its model in scope
abbrev pub element_by : ℕ → Bindings → List Seen → ℕ → Seen → Option ℕ → List Shown → Element
element_by d b all place r first known = record {
  id = id_of r;
  parent = option_map (number_of all) r.standing.parent;
  parts = parts_of all r.parts;
  model = or_else (own_model all place r) (option_map (named class.Model all) (id_at r.tag known at.MODEL));
  binding = binding_of d b all r.tag known;
  kind = kind_by d b all place r first known r.tag;
}

abbrev pub element_of : ℕ → Bindings → List Seen → Option ℕ → ℕ → Seen → Element
element_of d b all first place r = element_by d b all place r first (known_in b r.attributes)

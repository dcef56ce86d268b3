-- What the elements around an element give it, handed down from one to the next (XForms 1.1, sections 7.2, 8.1.1 and 9), in forms of which
-- each control has one copy.
use Rattle.std.specs.Prelude.{ℕ, Bool, true, ◌&&◌, [], Option, Some, None, if◌then◌else◌}
use Rattle.xf_def_xpath.specs.Setting.{Meaning, ◌>>=◌}
use Rattle.xf_def_ui.specs.Interface.{Bound, unbound, Sort, Element, Interface, other, output}
use Rattle.xf_def_ui.specs.Elements.{is_container}
use Rattle.xf_def_ui.specs.Around.{Around, first_bound}
use Rattle.xf_def_ui.specs.Context.{Inside, Place, free, place_of, focus_in, scope_of, context_in}
use Rattle.xf_def_ui.specs.declared.marks.Marks.{Marks}
use Rattle.xf_def_ui.specs.Copies.{Copy, copy_with, is_open_by, marks_if, value_by}

pub record Handed : Type 0 where
  pub model : ℕ
  pub place : Place
  -- each container around binds nothing or a relevant node
  pub is_open : Bool

abbrev pub inside_of : Handed → Inside
inside_of h = record { model = h.model; place = h.place; rows = [] }

-- what the first element of a form has around it
abbrev pub first_handed : Handed
first_handed = record { model = 0; place = free; is_open = true }

-- a submission has nothing around it
abbrev pub place_for : Sort → Place → Place
place_for other place = free
place_for sort place = place

-- the node that an element binds
abbrev pub node_in : Interface → Around → Handed → Element → Option (Option ℕ)
node_in f a h e = let model = scope_of f h.model e in first_bound a model e.binding (focus_in a model (place_for e.sort h.place))

abbrev pub place_below : Place → Bound → Option ℕ → Place
place_below place unbound selected = place
place_below place binding selected = place_of selected

abbrev pub open_below : (ℕ → Marks) → Bool → Bound → Bool → Option ℕ → Bool
open_below marks is_container binding is_open node = if is_container then is_open_by marks binding node && is_open else is_open

-- what an element that binds a node gives to what stands in it
abbrev pub handed_by : Interface → (ℕ → Marks) → Handed → Element → Option ℕ → Handed
handed_by f marks h e node = record {
  model = scope_of f h.model e;
  place = place_below h.place e.binding node;
  is_open = open_below marks (is_container e.sort) e.binding h.is_open node;
}

-- the copy of an element that binds a node
abbrev pub copy_by : Interface → Around → (ℕ → Marks) → Handed → ℕ → Element → Option ℕ → Option Copy
copy_by f a marks h n e node = do
  text ← value_by a (context_in f a (inside_of h) e) e.binding e.sort node
  Some (copy_with n [] node text (is_open_by marks e.binding node && h.is_open) (marks_if marks node) [])

-- the expression `value` of an output
abbrev pub printed_in : Sort → Option Meaning
printed_in (output expr) = expr
printed_in sort = None

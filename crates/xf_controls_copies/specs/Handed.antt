-- What the elements around an element give it under a chain of rows, handed down from one to the next (XForms 1.1, sections 7.2, 8.1.1 and 9).
use Rattle.std.specs.Prelude.{ℕ, Bool, true, ◌&&◌, List, [], ◌∷◌, ◌++◌, Option, Some, if◌then◌else◌}
use Rattle.xf_def_xpath.specs.Setting.{◌>>=◌}
use Rattle.xf_def_ui.specs.declared.answers.Item.{Item}
use Rattle.xf_def_ui.specs.declared.marks.Marks.{Marks}
use Rattle.xf_def_ui.specs.Interface.{Sort, Element, Interface, select}
use Rattle.xf_def_ui.specs.Elements.{is_container}
use Rattle.xf_def_ui.specs.Around.{Around, all_bound, first_bound}
use Rattle.xf_def_ui.specs.Context.{Inside, Place, free, on, standing_in, scope_of, context_in}
use Rattle.xf_def_ui.specs.Cases.{if_case}
use Rattle.xf_def_ui.specs.Copies.{Copy, copy_with, is_open_by, marks_if, own_binding, value_by}
use Rattle.xf_items.specs.Items.{items_within}
use Rattle.xf_controls.specs.Handed.{place_below}

pub record Handed : Type 0 where
  pub model : ℕ
  pub place : Place
  -- those of the repeats around, the outermost first
  pub rows : List ℕ
  -- each container around binds nothing or a relevant node, and each case around is selected
  pub is_enabled : Bool

abbrev pub inside_of : Handed → Inside
inside_of h = record { model = h.model; place = h.place; rows = [] }

-- what the first element of a form has around it
abbrev pub first_handed : Handed
first_handed = record { model = 0; place = free; rows = []; is_enabled = true }

-- ---- the copy of an element

-- the node that it binds
abbrev pub node_in : Interface → Around → Handed → Element → Option (Option ℕ)
node_in f a h e = let c = context_in f a (inside_of h) e in first_bound a c.model (own_binding e e.sort) c.focus

-- its items, where it is a select
abbrev pub items_for : Interface → Around → Inside → ℕ → Sort → Option (List Item)
items_for f a s n (select many is_free) = items_within f a s n
items_for f a s n sort = Some []

-- where it binds this node
abbrev pub copy_by : Interface → Around → (ℕ → Marks) → Handed → ℕ → Element → Option ℕ → Option Copy
copy_by f a marks h n e node = do
  text ← value_by a (context_in f a (inside_of h) e) (own_binding e e.sort) e.sort node
  items ← items_for f a (inside_of h) n e.sort
  Some (copy_with n h.rows node text (is_open_by marks (own_binding e e.sort) node && h.is_enabled) (marks_if marks node) items)

-- ---- what it gives to what stands in it

-- it is no container, or an open one
abbrev pub open_if : Sort → Bool → Bool
open_if sort is_open = if is_container sort then is_open else true

-- a control or container that binds a node, and is no repeat
abbrev pub handed_by : Interface → (ℕ → Marks) → List ℕ → Handed → ℕ → Element → Option ℕ → Handed
handed_by f marks cases h n e node = record {
  model = scope_of f h.model e;
  place = place_below h.place e.binding node;
  rows = h.rows;
  is_enabled = open_if e.sort (is_open_by marks (own_binding e e.sort) node) && (if_case f cases n e.sort && h.is_enabled);
}

-- any other element, by what is evaluated in it
abbrev pub handed_in : Handed → Inside → Handed
handed_in h s = record { model = s.model; place = s.place; rows = h.rows; is_enabled = h.is_enabled }

-- the rows of a repeat
abbrev pub rows_in : Interface → Around → Handed → Element → Option (List ℕ)
rows_in f a h e = let c = context_in f a (inside_of h) e in all_bound a c.model e.binding c.focus

-- what has a place in a row of a set, in a model
abbrev pub in_row : Handed → ℕ → List ℕ → ℕ → Handed
in_row h model set m = record { model = model; place = on (standing_in m set); rows = h.rows ++ m ∷ []; is_enabled = h.is_enabled }

-- a repeat, in one of its rows
abbrev pub handed_row : Interface → Handed → Element → List ℕ → ℕ → Handed
handed_row f h e set m = in_row h (scope_of f h.model e) set m

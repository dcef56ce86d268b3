-- The copies of controls and containers (XForms 1.1, sections 8.1.1 and 9): one for each chain of rows of the repeats around, each with what
-- it binds, its value, its states and its items. The list is made afresh.
use Rattle.std.specs.Prelude.{ℕ, ◌+◌, Bool, true, false, not, ◌&&◌, List, [], ◌∷◌, length, filter, sum_by, Option, Some, None, option_map}
use Rattle.std.specs.List.{list_all}
use Rattle.xf_def_xpath.specs.Setting.{Focus, Meaning, ◌>>=◌, each}
use Rattle.xf_def_xpath.specs.Meaning.{text_worth}
use Rattle.xf_def_xpath.specs.Conversions.{string_of_node}
use Rattle.xf_def_ui.specs.declared.answers.Item.{Item}
use Rattle.xf_def_ui.specs.declared.marks.Marks.{Marks}
use Rattle.xf_def_ui.specs.Interface.{Bound, unbound, Sort, Element, Interface, repeated, output, select}
use Rattle.xf_def_ui.specs.Elements.{element_at, ancestors, is_container}
use Rattle.xf_def_ui.specs.Around.{Around, setting, first_bound}
use Rattle.xf_def_ui.specs.Context.{Context, context_of}
use Rattle.xf_def_ui.specs.Index.{Index, seeing}
use Rattle.xf_def_ui.specs.Cases.{is_in_selected}
use Rattle.xf_def_ui.specs.Items.{items_of}
use Rattle.xf_def_ui.specs.Places.{places}

-- a copy of a control or container
pub record Copy : Type 0 where
  pub element : ℕ
  -- the row nodes, the outermost first
  pub rows : List ℕ
  -- the bound node
  pub node : Option ℕ
  -- None is no value, which an empty one is not
  pub value : Option (List ℕ)
  pub enabled : Bool
  pub readwrite : Bool
  pub required : Bool
  pub valid : Bool
  pub items : List Item

-- ---- what a copy binds

-- a repeat counts as without a binding
abbrev pub own_binding : Element → Sort → Bound
own_binding e (repeated k start) = unbound
own_binding e sort = e.binding

-- the node that an element binds in these rows
abbrev pub node_of : Interface → Around → List ℕ → ℕ → Option (Option ℕ)
node_of f a rows n = do
  c ← context_of f a rows n
  first_bound a c.model (own_binding (element_at f n) (element_at f n).sort) c.focus

-- ---- its value: that of the bound node, or of an output's expression where there is a context node

-- the text of an output's expression: no value without a context node
abbrev pub printed_value : Around → Context → Meaning → Option Focus → Option (Option (List ℕ))
printed_value a c m None = Some None
printed_value a c m (Some x) = option_map Some (text_worth m (setting a c.model x.node) x)

-- by what the copy binds, else by its sort
abbrev pub value_by : Around → Context → Bound → Sort → Option ℕ → Option (Option (List ℕ))
value_by a c binding sort (Some n) = option_map Some (string_of_node (setting a c.model n) n)
value_by a c unbound (output (Some m)) None = printed_value a c m c.focus
value_by a c binding sort None = Some None

-- ---- its states

-- there is a node, and it is relevant
abbrev pub relevant_if : (ℕ → Marks) → Option ℕ → Bool
relevant_if marks None = false
relevant_if marks (Some n) = (marks n).relevant

-- it binds nothing, or a relevant node
abbrev pub is_open_by : (ℕ → Marks) → Bound → Option ℕ → Bool
is_open_by marks unbound selected = true
is_open_by marks binding selected = relevant_if marks selected

-- so of an element in these rows
abbrev pub is_open : Interface → Around → (ℕ → Marks) → List ℕ → ℕ → Option Bool
is_open f a marks rows n =
    option_map (is_open_by marks (own_binding (element_at f n) (element_at f n).sort)) (node_of f a rows n)

-- it and the containers around it
abbrev pub with_containers : Interface → ℕ → List ℕ
with_containers f n = n ∷ filter (λ m. is_container (element_at f m).sort) (ancestors f n)

-- all of these are open, and no case around is unselected
abbrev pub is_enabled : Interface → Around → (ℕ → Marks) → List ℕ → List ℕ → ℕ → Option Bool
is_enabled f a marks cases rows n =
    option_map (λ all. list_all (λ b. b) all && is_in_selected f cases n) (each (is_open f a marks rows) (with_containers f n))

-- what a copy without a bound node has
abbrev pub no_marks : Marks
no_marks = record { relevant = true; readonly = false; required = false; valid = true }

-- the properties of the bound node
abbrev pub marks_if : (ℕ → Marks) → Option ℕ → Marks
marks_if marks None = no_marks
marks_if marks (Some n) = marks n

-- ---- the copies

-- the items of a select; other controls have none
abbrev pub items_if : Interface → Around → List ℕ → ℕ → Sort → Option (List Item)
items_if f a rows n (select many is_free) = items_of f a rows n
items_if f a rows n sort = Some []

-- the copy that is made of all this
abbrev pub copy_with : ℕ → List ℕ → Option ℕ → Option (List ℕ) → Bool → Marks → List Item → Copy
copy_with n rows node value enabled marks items = record {
  element = n;
  rows = rows;
  node = node;
  value = value;
  enabled = enabled;
  readwrite = not marks.readonly;
  required = marks.required;
  valid = marks.valid;
  items = items;
}

-- of an element under a chain of rows
abbrev pub copy_of : Interface → Around → (ℕ → Marks) → List ℕ → List ℕ → ℕ → Option Copy
copy_of f a marks cases rows n = do
  c ← context_of f a rows n
  node ← node_of f a rows n
  text ← value_by a c (own_binding (element_at f n) (element_at f n).sort) (element_at f n).sort node
  enabled ← is_enabled f a marks cases rows n
  items ← items_if f a rows n (element_at f n).sort
  Some (copy_with n rows node text enabled (marks_if marks node) items)

-- all of them, by the properties of nodes, the selected case of each switch and the indexes; None where a string is too long
abbrev pub copies : Interface → Around → (ℕ → Marks) → List ℕ → List Index → Option (List Copy)
copies f a marks cases indexes =
    places f (seeing f indexes a) >>= each (λ p. copy_of f (seeing f indexes a) marks cases p.1 p.0)

-- how many copies and items there are: a limit that a form is held to
abbrev pub copy_count : List Copy → ℕ
copy_count all = length all + sum_by (λ c. length c.items) all

-- Where an element is evaluated (XForms 1.1, section 7.2): its model in scope, and the node of the nearest element around it that has a
-- binding or is a row.
use Rattle.std.specs.Prelude.{ℕ, suc, List, [], ◌∷◌, length, Option, Some, None, option_map, unwrap_or, slice_get, ◌==◌, if◌then◌else◌}
use Rattle.std.specs.List.{position_or_len}
use Rattle.xf_def_forest.specs.Visit.{has}
use Rattle.xf_def_xpath.specs.Given.{first_document}
use Rattle.xf_def_xpath.specs.Setting.{Focus, Meaning, ◌>>=◌}
use Rattle.xf_def_ui.specs.Interface.{Bound, unbound, nodes, by_bind, Sort, other, repeated, Element, Interface}
use Rattle.xf_def_ui.specs.Elements.{element_at, path_to, elements_on}
use Rattle.xf_def_ui.specs.Around.{Around, alone, all_bound, first_bound}

-- ---- from the root of the form down

-- the node that the elements around give
pub data Place : Type 0 where
  -- none of them has a binding or is a row
  free : Place
  -- the nearest one that has a binding selects nothing, or has no row
  lost : Place
  on : Focus → Place

-- what the elements above give to one that stands in them
pub record Inside : Type 0 where
  -- the model in scope
  pub model : ℕ
  pub place : Place
  -- the rows of the repeats further in, the outermost first
  pub rows : List ℕ

-- of what has nothing around it, the document element of the first instance of its model
abbrev pub focus_in : Around → ℕ → Place → Option Focus
focus_in a model free = option_map alone (first_document model a.given.documents)
focus_in a model lost = None
focus_in a model (on c) = Some c

-- the model of the bind that is named, else the one that `model` names
abbrev pub named_model : Interface → Bound → Option ℕ → Option ℕ
named_model f (by_bind k) model = slice_get f.bind_models k
named_model f binding model = model

-- the model in scope: that of its bind, else that of `model`, else that of the element around
abbrev pub scope_of : Interface → ℕ → Element → ℕ
scope_of f outer e = unwrap_or (named_model f e.binding e.model) outer

-- a row at its place among the rows; alone where it is none any more
abbrev pub standing_in : ℕ → List ℕ → Focus
standing_in n rows =
    if has n rows then record { node = n; position = suc (position_or_len (λ m. m == n) rows); size = length rows } else alone n

-- the row that stands first in the chain; without one the place is lost
abbrev pub row_place : List ℕ → List ℕ → Place
row_place rows [] = lost
row_place rows (n ∷ ns) = on (standing_in n rows)

-- the rows of the repeats further in
abbrev pub rest : List ℕ → List ℕ
rest [] = []
rest (n ∷ ns) = ns

-- the bound node by itself
abbrev pub place_of : Option ℕ → Place
place_of None = lost
place_of (Some n) = on (alone n)

-- into an element with a binding: its first node is the place from there on
abbrev pub enter_bound : Around → Inside → ℕ → Bound → Option Inside
enter_bound a s model unbound = Some (record s { model = model })
enter_bound a s model binding =
    option_map (λ n. record { model = model; place = place_of n; rows = s.rows }) (first_bound a model binding (focus_in a model s.place))

-- a submission selects from the document element of its model's first instance, whatever stands around the model
abbrev pub enter_sent : Around → Inside → ℕ → Bound → Option Inside
enter_sent a s model unbound = Some (record s { model = model })
enter_sent a s model binding = enter_bound a (record s { place = free }) model binding

-- into a repeat: the next row of the chain is the place from there on
abbrev pub enter_row : Around → Inside → ℕ → Bound → Option Inside
enter_row a s model binding =
    option_map (λ rows. record { model = model; place = row_place rows s.rows; rows = rest s.rows }) (all_bound a model binding (focus_in a model s.place))

-- by the sort of the element
abbrev pub enter_by : Around → Inside → ℕ → Bound → Sort → Option Inside
enter_by a s model binding (repeated k start) = enter_row a s model binding
enter_by a s model binding other = enter_sent a s model binding
enter_by a s model binding sort = enter_bound a s model binding

-- what an element gives to what stands in it
abbrev pub enter : Interface → Around → Inside → Element → Option Inside
enter f a s e = enter_by a s (scope_of f s.model e) e.binding e.sort

-- through these elements, one in the other
abbrev pub entered : Interface → Around → Inside → List Element → Option Inside
entered f a s [] = Some s
entered f a s (e ∷ es) = do
  t ← enter f a s e
  entered f a t es

-- ---- of an element, under a chain of row nodes of the repeats around it

-- where the expressions of an element are evaluated
pub record Context : Type 0 where
  pub model : ℕ
  -- None where it has no context node
  pub focus : Option Focus

-- what the elements around it give
abbrev pub inside : Interface → Around → List ℕ → ℕ → Option Inside
inside f a rows n = entered f a (record { model = 0; place = free; rows = rows }) (elements_on f (path_to f n))

-- by what the elements around it give
abbrev pub context_in : Interface → Around → Inside → Element → Context
context_in f a s e = let model = scope_of f s.model e in record { model = model; focus = focus_in a model s.place }

-- of an element of the form
abbrev pub context_of : Interface → Around → List ℕ → ℕ → Option Context
context_of f a rows n = option_map (λ s. context_in f a s (element_at f n)) (inside f a rows n)

-- the context that an attribute `context` gives in place of this one (sections 10.3 and 10.4): without a node where it selects nothing
abbrev pub moved : Around → Context → Option Meaning → Option Context
moved a c None = Some c
moved a c (Some m) = option_map (λ n. record { model = c.model; focus = option_map alone n }) (first_bound a c.model (nodes m) c.focus)

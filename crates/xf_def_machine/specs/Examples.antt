-- Small forms to read beside the definitions, with small budgets.
use Rattle.std.specs.Prelude.{ℕ, true, false, List, [], ◌∷◌, map, Option, Some, None}
use Rattle.xf_name.specs.Bindings.{no_bindings}
use Rattle.xf_def_syntax.specs.declared.action.Handler.{Handler}
use Rattle.xf_def_syntax.specs.declared.action.Phase.TheVariants.{Capture, Default}
use Rattle.xf_def_syntax.specs.declared.element.Part.TheVariants as part
use Rattle.xf_def_forest.specs.declared.content.Content.{Content}
use Rattle.xf_def_forest.specs.declared.content.Content.TheVariants.{Text}
use Rattle.xf_def_forest.specs.declared.content.Content.TheVariants as content
use Rattle.xf_def_forest.specs.Examples.{plain}
use Rattle.xf_def_xpath.specs.Setting.{Meaning}
use Rattle.xf_def_xpath.specs.Examples.{functions, path, child, here, call, literal}
use Rattle.xf_def_model.specs.Rules.{Rule}
use Rattle.xf_def_ui.specs.Interface.{Sort, Element, Interface, Bound, nodes, unbound}
use Rattle.xf_def_ui.specs.Interface as sort
use Rattle.xf_def_machine.specs.Program.{Work, Role, Program}
use Rattle.xf_def_machine.specs.Program as role
use Rattle.xf_def_machine.specs.Profile.{Profile}

-- every type is met; small budgets
abbrev pub profile : Profile
profile = record {
  functions = functions;
  meets = λ types kind text. true;
  bounds = record { string = 1000; limits = record { nodes = 40; text = 10; all = 200; depth = 5 } };
  turns = 12;
  depth = 3;
  sends = 2;
  passes = 4;
  notes = 80;
  made = 100;
  controls = 20;
  edges = 100;
}

-- the children of this name
abbrev pub to : List ℕ → Meaning
to name = (path (child name ∷ [])).meaning

-- the context node
abbrev pub itself : Meaning
itself = (path (here false ∷ [])).meaning

-- `index('ID')`, `event('NAME')`
abbrev pub index_of : List ℕ → Meaning
index_of id = (call 17 (literal id ∷ [])).meaning

-- `event('NAME')`
abbrev pub event_of : List ℕ → Meaning
event_of name = (call 13 (literal name ∷ [])).meaning

-- an element, and what it is for the machine
abbrev pub Part : Type 0
Part = Element × Role

-- of this sort, in this element, with these in it
abbrev pub element : Option ℕ → List ℕ → Sort → Role → Part
element parent ns is as_what = (record { id = []; parent = parent; parts = map part.Element ns; model = None; binding = unbound; sort = is }, as_what)

-- with an expression as its binding
abbrev pub bound : Meaning → Part → Part
bound m x = (record x.0 { binding = nodes m }, x.1)

-- with an id
abbrev pub named : List ℕ → Part → Part
named id x = (record x.0 { id = id }, x.1)

-- with a text in it
abbrev pub saying : List ℕ → Part → Part
saying text x = (record x.0 { parts = part.Text text ∷ [] }, x.1)

-- a handler of an event at an observer
abbrev pub handler : List ℕ → ℕ → Handler
handler event observer = record { event = event; observer = Some observer; target = None; phase = Default; stops = false; cancels = false }

-- a handler with more written of it
abbrev pub heard : (Handler → Handler) → Sort → Sort
heard more (sort.action (Some h)) = sort.action (Some (more h))
heard more is = is

-- a handler that is changed so
abbrev pub with_handler : (Handler → Handler) → Part → Part
with_handler more x = (record x.0 { sort = heard more x.0.sort }, x.1)

-- in the capture phase
abbrev pub capturing : Handler → Handler
capturing h = record h { phase = Capture }

-- an action that does this
abbrev pub doing : Work → Role
doing work = role.action (record { condition = None; repetition = None; work = work })

-- a handler of its parent
abbrev pub on : List ℕ → ℕ → List ℕ → Work → Part
on event observer ns work = element (Some observer) ns (sort.action (Some (handler event observer))) (doing work)

-- an action in an action
abbrev pub inner : ℕ → Work → Part
inner around work = element (Some around) [] (sort.action None) (doing work)

-- an action with a `while`
abbrev pub during : Meaning → Part → Part
during test (x, role.action a) = (x, role.action (record a { repetition = Some test }))
during test x = x

-- an action with an `if`
abbrev pub given_that : Meaning → Part → Part
given_that test (x, role.action a) = (x, role.action (record a { condition = Some test }))
given_that test x = x

-- data, each node with its depth
abbrev pub Tree : Type 0
Tree = List (ℕ × Content)

-- an element of the data
abbrev pub element_at : ℕ → List ℕ → ℕ × Content
element_at depth name = (depth, content.Element (plain name))

-- a text of the data
abbrev pub text_at : ℕ → List ℕ → ℕ × Content
text_at depth text = (depth, Text text)

-- the instance
abbrev pub instance : Part
instance = element (Some 1) [] sort.other role.other

-- the model, with these in it
abbrev pub model : List ℕ → Part
model ns = element (Some 0) ns sort.other (role.model 0)

-- of one model with one instance, of these parts (the root is 0, the model 1, the instance 2), binds, repeats, switches and data
abbrev pub form : List Part → List Rule → List ℕ → List ℕ → Tree → Program
form parts rules repeats switches document = record {
  interface = record { elements = map (λ x. x.0) parts; repeats = repeats; switches = switches; bind_models = map (λ r. r.model) rules };
  roles = map (λ x. x.1) parts;
  rules = rules;
  instances = record { model = 0; id = []; place = []; space = 0 } ∷ [];
  submissions = [];
  types = [];
  model_elements = 1 ∷ [];
  instance_elements = 2 ∷ [];
  submission_elements = [];
  bindings = no_bindings;
  decimals = 6;
  documents = document ∷ [];
}

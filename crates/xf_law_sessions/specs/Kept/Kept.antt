-- What a model keeps of its last rebuild (XForms 1.1, section 4.3.1), told by its binds and the nodes alone.
use Rattle.std.specs.Prelude.{ℕ, ◌≡◌, ◌<◌, ◌^◌, true, List, [], map, length, Ok, None}
use Rattle.xf_def_syntax.specs.declared.form.Tables.{Tables}
use Rattle.xf_def_forest.specs.declared.content.Node.{Node}
use Rattle.xf_def_forest.specs.Forest.{Forest}
use Rattle.xf_def_forest.specs.Shape.{shape_of}
use Rattle.xf_def_forest.specs.WellFormed.{HasTrees}
use Rattle.xf_def_xpath.specs.Given.{Given}
use Rattle.xf_def_model.specs.Applied.{applied}
use Rattle.xf_def_model.specs.Circular.{graph_over}
use Rattle.xf_def_model.specs.Entries.{edge_count}
use Rattle.xf_def_model.specs.Rules.{Scope, rule_of}
use Rattle.xf_law_recalculation.specs.Agree.Hung.{are_hung}
use Rattle.xf_law_recalculation.specs.Document.Documents.{documents_at}
use Rattle.xf_def_machine.specs.Behave.{model_at}
use Rattle.xf_def_machine.specs.Cycles.{reported_cycle}
use Rattle.xf_def_machine.specs.Profile.{Profile}
use Rattle.xf_def_machine.specs.Program.{Program}
use Rattle.xf_def_machine.specs.State.{Model, State}
use Rattle.xf_def_machine.specs.Surround.{bind_scope}
use Rattle.xf_law_machine.specs.Behaviours.Chain.{NoRebuild}

-- ---- the data

-- a list of trees with texts in elements, whose numbers are no text's of a shape
pub record HasNodes (forest : Forest) : Type 0 where
  pub trees : HasTrees forest
  pub hung : are_hung forest.nodes ≡ true
  pub few : forest.next < 2 ^ 128

-- the binds of a form are those of these tables
abbrev pub HasBinds : Tables → Program → Type 0
HasBinds tables form = form.rules ≡ map rule_of tables.binds

-- what is given to the binds of a form over these nodes: no index, and no event
abbrev pub given_over : Program → List Node → Given
given_over form nodes = record { documents = documents_at form.instances nodes; indexes = []; event = None; bindings = form.bindings; decimals = form.decimals }

-- ---- a model

-- the entries are those that the binds set, without an exception and without a cycle, and what they ask is counted
pub record IsEntered (scope : Scope) (nodes : List Node) (m : Model) : Type 0 where
  pub entries : applied scope nodes ≡ Ok m.entries
  pub no_cycle : reported_cycle (graph_over scope (shape_of nodes) m.entries) ≡ None
  pub asked : m.asked ≡ edge_count scope (shape_of nodes) m.entries

-- so of the model with this number
abbrev pub IsEnteredAt : Profile → State → ℕ → Type 0
IsEnteredAt p s model = IsEntered (bind_scope p s model) s.forest.nodes (model_at s model)

-- where its rebuild is not due
abbrev pub EnteredUnlessDue : Profile → State → ℕ → Type 0
EnteredUnlessDue p s model = NoRebuild model s → IsEnteredAt p s model

-- so of all models of the form
abbrev pub AreEntered : Profile → State → Type 0
AreEntered p s = (model : ℕ) → model < length s.models → EnteredUnlessDue p s model

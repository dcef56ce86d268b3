-- What is known of the nodes that controls bind: it is so over all data of the shape that was planted, which changes of texts leave as it is.
use Rattle.std.specs.Prelude.{ℕ, ◌≡◌, true, List, [], Some, None, Result, Ok, Err}
use Rattle.xf_def_forest.specs.declared.content.Node.{Node}
use Rattle.xf_def_forest.specs.Changes.{root_of}
use Rattle.xf_def_forest.specs.Forest.{Forest}
use Rattle.xf_def_forest.specs.Shape.{shape_of}
use Rattle.xf_def_forest.specs.declared.node.NodeId.{NodeId}
use Rattle.xf_def_forest.specs.Visit.{Visit, visits}
use Rattle.xf_law_recalculation.specs.Agree.Settles.{IsSolid}
use Rattle.xf_def_forest.specs.WellFormed.{HasTrees}
use Rattle.xf_def_ui.specs.Around.{Around}
use Rattle.xf_def_ui.specs.Interface.{interface_of}
use Rattle.xf_law_recalculation.specs.Agree.Hung.{are_hung}
use Rattle.xf_controls.specs.declared.known.Known.{Known}
use Rattle.xf_controls.specs.Known.{AreKnown, known_at}
use Rattle.xf_controls.specs.Surrounded.{around_in}
use Rattle.xf_def_machine.specs.Refusal.{Refused}
use Rattle.xf_def_machine.specs.State.{State}
use Rattle.xf_form.specs.declared.loaded.Loaded.{Loaded}
use Rattle.xf_engine_state.specs.Around.{given_in}
use Rattle.xf_engine_state.specs.Planting.{planted_by}

abbrev pub shape_by : Result State Refused → List Visit
shape_by (Ok s) = shape_of s.forest.nodes
shape_by (Err r) = []

-- of the data of all instances, as they are planted
unfoldable pub planted_shape : Loaded → List Visit
planted_shape l = shape_by (planted_by l)

-- what surrounds the controls of a form over data, outside an event
abbrev pub around_over : Loaded → Forest → Around
around_over l forest = around_in (given_in l.form.tables.instances l.prefixes l.form.decimals forest) l.form.tables forest.nodes

-- none of them is a text, so that changes of texts leave it where it stands
abbrev pub AreSolid : List Visit → List Known → Type 0
AreSolid all known = (n : ℕ) (k : NodeId) → known_at known n ≡ Some (Some k) → IsSolid all k.number

-- the last place among roots that 32 bits number
abbrev pub last_place : ℕ
last_place = 4294967295

pub record IsHeld (l : Loaded) (known : List Known) : Type 0 where
  -- no root stands there
  pub few : (nodes : List Node) → shape_of nodes ≡ planted_shape l → root_of last_place nodes ≡ None
  pub over : (forest : Forest) → HasTrees forest → are_hung forest.nodes ≡ true → shape_of forest.nodes ≡ planted_shape l → AreKnown (interface_of l.form) (around_over l forest) forest.nodes known
  pub solid : (forest : Forest) → HasTrees forest → are_hung forest.nodes ≡ true → shape_of forest.nodes ≡ planted_shape l → AreSolid (visits forest.nodes) known

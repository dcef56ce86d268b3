-- Controls that differ from those made afresh in the values of their nodes alone (XForms 1.1, section 4.3.4): so they are over all data of the shape
-- that was planted, by what a table of binds has of these nodes. Changes of texts leave it so.
use Rattle.std.specs.Prelude.{ℕ, ◌≡◌, true, false, List, map, nat_lt, option_map}
use Rattle.xf_base.specs.Limits.{copy_limit}
use Rattle.xf_law_recalculation.specs.Agree.Hung.{are_hung}
use Rattle.xf_def_forest.specs.Forest.{Forest}
use Rattle.xf_def_forest.specs.Shape.{shape_of}
use Rattle.xf_def_forest.specs.WellFormed.{HasTrees}
use Rattle.xf_binds.specs.Kept.{Kept}
use Rattle.xf_controls.specs.declared.copy.ControlCopy.{ControlCopy}
use Rattle.xf_controls.specs.Renewed.{AreThere, renewed}
use Rattle.xf_controls.specs.Rising.{is_rising}
use Rattle.xf_controls.specs.Seen.{seen_copy}
use Rattle.xf_def_ui.specs.Copies.{copies, copy_count}
use Rattle.xf_def_ui.specs.declared.marks.Marks.{Marks}
use Rattle.xf_def_ui.specs.Index.{Index}
use Rattle.xf_def_ui.specs.Interface.{interface_of}
use Rattle.xf_valid.specs.Nodes.{marks_in}
use Rattle.xf_form.specs.declared.loaded.Loaded.{Loaded}
use Rattle.xf_engine_state.specs.Held.{around_over, planted_shape}

-- data of the shape that was planted
pub record IsShaped (l : Loaded) (forest : Forest) : Type 0 where
  pub trees : HasTrees forest
  pub hung : are_hung forest.nodes ≡ true
  pub shape : shape_of forest.nodes ≡ planted_shape l

pub record AreSteady (l : Loaded) (table : List Kept) (list : List ControlCopy) : Type 0 where
  pub over : (forest : Forest) → IsShaped l forest → (marks : ℕ → Marks) → ((n : ℕ) → marks n ≡ marks_in table forest.nodes n) → (cases : List ℕ) (indexes : List Index)
      → copies (interface_of l.form) (around_over l forest) marks cases indexes ≡ option_map (map seen_copy) (renewed forest.nodes list)
  pub there : (forest : Forest) → IsShaped l forest → AreThere list forest.nodes
  pub rising : is_rising list ≡ true
  pub few : nat_lt copy_limit (copy_count (map seen_copy list)) ≡ false

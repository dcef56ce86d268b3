-- All that is known of what an engine works on, as it stands and as it was kept.
use Rattle.std.specs.Prelude.{◌≡◌, true, List, [], length}
use Rattle.std.specs.Bool.{OnTrue}
use Rattle.xf_def_forest.specs.Changes.{in_detached}
use Rattle.xf_def_forest.specs.Forest.{Forest}
use Rattle.xf_def_forest.specs.Shape.{shape_of}
use Rattle.xf_binds.specs.Kept.{Kept}
use Rattle.xf_binds.specs.Table.{all_rolled_back}
use Rattle.xf_controls.specs.Bound.{AllBound}
use Rattle.xf_controls.specs.Plain.{is_plain}
use Rattle.xf_controls.specs.declared.copy.ControlCopy.{ControlCopy}
use Rattle.xf_form.specs.declared.loaded.Loaded.{Loaded}
use Rattle.xf_def_ui.specs.Interface.{interface_of}
use Rattle.xf_engine_state.specs.declared.knowing.Knowledge.{Knowledge}
use Rattle.xf_engine_state.specs.declared.work.Work.TheInside.{Inside}
use Rattle.xf_engine_state.specs.FirstData.{AreFirst}
use Rattle.xf_engine_state.specs.Held.{IsHeld, planted_shape}
use Rattle.xf_engine_state.specs.Known.{Knows}
use Rattle.xf_engine_state.specs.Parts.{IsSound}
use Rattle.xf_engine_state.specs.Steady.{AreSteady}

-- the shape is that which was planted, and no tree is detached
pub record AreAsPlanted (l : Loaded) (forest : Forest) : Type 0 where
  pub shape : shape_of forest.nodes ≡ planted_shape l
  pub alone : in_detached forest.nodes ≡ []

-- what is told of data, of a table and of controls is right
pub record IsRight (l : Loaded) (forest : Forest) (table : List Kept) (controls : List ControlCopy) (k : Knowledge) : Type 0 where
  pub known : Knows l forest table k.known
  pub steady : OnTrue k.is_steady (AreSteady l table controls)
  pub planted : OnTrue k.is_planted (AreAsPlanted l forest)
  pub alone : OnTrue k.is_alone (in_detached forest.nodes ≡ [])

pub record IsFit (w : Inside) : Type 0 where
  pub sound : IsSound w.loaded w.draft w.table w.flags.items w.old_flags.items w.built w.old_built
  pub now : IsRight w.loaded w.draft.now w.table w.shown.now w.knowledge
  pub before : IsRight w.loaded w.draft.kept (all_rolled_back w.table) w.shown.kept w.old_knowledge
  -- as many indexes and cases were kept as stand
  pub indexes : length w.old_indexes.items ≡ length w.indexes.items
  pub cases : length w.old_cases.items ≡ length w.cases.items
  -- no tree that is kept is detached
  pub alone : in_detached w.draft.kept.nodes ≡ []
  -- whether each control and container has one copy
  pub plain : OnTrue w.is_plain (is_plain (interface_of w.loaded.form) ≡ true)
  -- what is known of the nodes of controls is so
  pub held : IsHeld w.loaded w.bound_nodes
  pub bound : OnTrue w.is_bound (AllBound (interface_of w.loaded.form) w.bound_nodes)
  pub first : AreFirst w.loaded w.first_data

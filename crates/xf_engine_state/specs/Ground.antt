-- What a form begins with, beside itself.
use Rattle.std.specs.Prelude.{◌≡◌, ◌≤◌, true, [], Result, Ok, Err, length, replicate}
use Rattle.std.specs.Bool.{OnTrue}
use Rattle.xf_law_recalculation.specs.Agree.Hung.{are_hung}
use Rattle.xf_binds.specs.Kept.{no_kept}
use Rattle.xf_controls.specs.Bound.{AllBound}
use Rattle.xf_controls.specs.Plain.{is_plain}
use Rattle.xf_def_forest.specs.Changes.{in_detached}
use Rattle.xf_form.specs.declared.loaded.Loaded.{Loaded}
use Rattle.xf_def_ui.specs.Interface.{interface_of}
use Rattle.xf_engine_state.specs.declared.fault.WorkFault.{WorkFault}
use Rattle.xf_engine_state.specs.declared.planting.Ground.{Ground}
use Rattle.xf_engine_state.specs.Flags.{none_due}
use Rattle.xf_engine_state.specs.Held.{IsHeld}
use Rattle.xf_engine_state.specs.Planting.{IsPlanted, growing, planted_by}

-- the data as they were planted, what is known over them, and of each model that nothing is kept and nothing is due
pub record IsGround (loaded : Loaded) (g : Ground) : Type 0 where
  pub grown : planted_by loaded ≡ Ok (growing loaded g.forest.forest g.made)
  pub alone : in_detached g.forest.forest.nodes ≡ []
  pub hung : are_hung g.forest.forest.nodes ≡ true
  pub plain : OnTrue g.is_plain (is_plain (interface_of loaded.form) ≡ true)
  pub held : IsHeld loaded g.bound_nodes
  pub bound : OnTrue g.is_bound (AllBound (interface_of loaded.form) g.bound_nodes)
  pub few : length loaded.form.models ≤ 4294967295
  pub table : g.table ≡ replicate (length loaded.form.models) no_kept
  pub flags : g.flags.items ≡ replicate (length loaded.form.models) none_due
  pub old_flags : g.old_flags.items ≡ replicate (length loaded.form.models) none_due

abbrev pub IsGrounded : Result Ground WorkFault → Loaded → Type 0
IsGrounded (Ok g) loaded = IsGround loaded g
IsGrounded (Err fault) loaded = IsPlanted (Err fault) (planted_by loaded)

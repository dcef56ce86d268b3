-- What is known of the data of a form, and of what is kept of each model that was built over them: it stays true while texts are set or settled,
-- since these leave the shape of the data as it is.
use Rattle.std.specs.Prelude.{ℕ, ◌≡◌, ◌<◌, Bool, true, false, List, get_or, None}
use Rattle.xf_def_forest.specs.declared.content.Node.{Node}
use Rattle.xf_def_forest.specs.Changes.{root_of}
use Rattle.xf_def_forest.specs.Forest.{Forest}
use Rattle.xf_funcs.specs.Called.{called}
use Rattle.xf_def_model.specs.Rules.{Scope, scope_of}
use Rattle.xf_law_recalculation.specs.Agree.Hung.{are_hung}
use Rattle.xf_binds.specs.Kept.{Kept}
use Rattle.xf_binds.specs.Table.{kept_at}
use Rattle.xf_binds_rebuild.specs.Built.{IsBuilt}
use Rattle.xf_form.specs.declared.loaded.Loaded.{Loaded}
use Rattle.xf_engine_state.specs.declared.flags.Flags.{Flags}
use Rattle.xf_engine_state.specs.Around.{given_in}
use Rattle.xf_engine_state.specs.Flags.{none_due}
use Rattle.xf_engine_state.specs.Held.{last_place}

-- what the binds of a model share, outside an event
abbrev pub scope_at : Loaded → Forest → ℕ → Scope
scope_at l forest model = scope_of called (given_in l.form.tables.instances l.prefixes l.form.decimals forest) l.form.tables model

-- whether the rebuild of a model is due
abbrev pub is_rebuild_due : List Flags → ℕ → Bool
is_rebuild_due flags model = (get_or flags model none_due).rebuild

-- texts stand in elements, no root has the last place that 32 bits number, and each of these first models is built where its rebuild is not due
pub record IsWhole (l : Loaded) (forest : Forest) (table : List Kept) (flags : List Flags) (built : ℕ) : Type 0 where
  pub hung : are_hung forest.nodes ≡ true
  pub few : root_of last_place forest.nodes ≡ None
  pub models : (model : ℕ) → model < built → is_rebuild_due flags model ≡ false → IsBuilt (scope_at l forest model) forest.nodes (kept_at table model)

-- after the rebuild of a model it is built, and what is kept of the others is the same
pub record IsRenewed (scope : Scope) (nodes : List Node) (before after : List Kept) : Type 0 where
  pub built : IsBuilt scope nodes (kept_at after scope.model)
  pub others : (other : ℕ) → (other ≡ scope.model → ⊥) → kept_at after other ≡ kept_at before other

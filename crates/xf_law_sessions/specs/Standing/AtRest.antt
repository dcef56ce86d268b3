-- A model at the end of an event, where nothing is due and the detached trees are dropped: what it keeps is what its behaviours would give now.
use Rattle.std.specs.Prelude.{ℕ, ◌≡◌, false, length, Ok, None, map, filter, []}
use Rattle.xf_def_syntax.specs.declared.form.Tables.{Tables}
use Rattle.xf_def_forest.specs.Changes.{in_instances}
use Rattle.xf_def_forest.specs.Shape.{shape_of}
use Rattle.xf_law_forests.specs.Root.Roots.{AreAhead}
use Rattle.xf_def_model.specs.Applied.{applied}
use Rattle.xf_def_model.specs.Circular.{graph_over}
use Rattle.xf_def_model.specs.Entries.{edge_count}
use Rattle.xf_def_model.specs.Pertinent.{AllOf}
use Rattle.xf_def_model.specs.Settled.{calculates, values_over}
use Rattle.xf_def_model.specs.Settled as data_of
use Rattle.xf_law_recalculation.specs.Part.Whole.{has_long_text, long_entries}
use Rattle.xf_def_machine.specs.AtRest.{IsSettledAt}
use Rattle.xf_def_machine.specs.Behave.{is_invalid, model_at, truly}
use Rattle.xf_def_machine.specs.Cycles.{counted_from, reported_cycle}
use Rattle.xf_def_machine.specs.Profile.{Profile}
use Rattle.xf_def_machine.specs.State.{State}
use Rattle.xf_def_machine.specs.Surround.{all_in, bind_scope}
use Rattle.xf_def_machine.specs.Update.{is_due}
use Rattle.xf_law_sessions.specs.Kept.Kept.{HasBinds, HasNodes}
use Rattle.xf_law_sessions.specs.Standing.Standing.{AreStanding}

-- of a model at rest, but for the limits of all data
pub record ModelStands (p : Profile) (s : State) (model : ℕ) : Type 0 where
  pub entries : applied (bind_scope p s model) s.forest.nodes ≡ Ok (model_at s model).entries
  pub no_cycle : reported_cycle (graph_over (bind_scope p s model) (shape_of s.forest.nodes) (model_at s model).entries) ≡ None
  pub asked : (model_at s model).asked ≡ edge_count (bind_scope p s model) (shape_of s.forest.nodes) (model_at s model).entries
  pub settled : AllOf (IsSettledAt p s model) (calculates (model_at s model).entries)
  pub strings : long_entries p.bounds (bind_scope p s model) (model_at s model).entries (data_of.settled p.bounds (bind_scope p s model) (model_at s model).entries (all_in s)) ≡ []
  pub texts : has_long_text p.bounds (bind_scope p s model) (model_at s model).entries (data_of.settled p.bounds (bind_scope p s model) (model_at s model).entries (all_in s)) ≡ false
  pub values : (model_at s model).stood ≡ map truly (values_over p.bounds (bind_scope p s model) (model_at s model).entries (all_in s))
  pub invalid : (model_at s model).invalid ≡ map (λ x. x.number) (filter (is_invalid p model s) (all_in s))

-- without the detached trees
abbrev pub dropped : State → State
dropped s = record s { forest = record s.forest { nodes = in_instances s.forest.nodes } }

abbrev pub StandAtRest : Type 0
StandAtRest = (p : Profile) (tables : Tables) (s : State) → HasBinds tables s.form → HasNodes s.forest → AreAhead s.forest.nodes → is_due s ≡ false → AreStanding p s →
    AllOf (ModelStands p (dropped s)) (counted_from 0 (length s.models))

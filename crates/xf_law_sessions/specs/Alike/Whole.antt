-- What of a state at rest is not told yet of what an event, a start and an adoption leave: with what is told of it (`Rests`) it is all of rest.
use Rattle.std.specs.Prelude.{ℕ, suc, ◌≡◌, List, [], false, true, map, filter, length, None, Some, Ok}
use Rattle.xf_line.specs.declared.event.Event.{Event}
use Rattle.xf_store.specs.declared.answers.Answer.{Answer}
use Rattle.xf_def_forest.specs.Limits.{passed_by_all, is_too_deep}
use Rattle.xf_def_forest.specs.Shape.{shape_of}
use Rattle.xf_def_forest.specs.WellFormed.{HasTrees}
use Rattle.xf_def_model.specs.Applied.{applied}
use Rattle.xf_def_model.specs.Circular.{graph_over}
use Rattle.xf_def_model.specs.Entries.{edge_count}
use Rattle.xf_def_model.specs.Pertinent.{AllOf}
use Rattle.xf_def_model.specs.Settled.{calculates, values_over, passed}
use Rattle.xf_def_machine.specs.AtRest.{HasDocuments, IsSettledAt, IsAtRest, are_placed, are_cases}
use Rattle.xf_def_machine.specs.Behave.{is_invalid, model_at, truly}
use Rattle.xf_def_machine.specs.Carried.{adopted}
use Rattle.xf_def_machine.specs.Cycles.{counted_from, reported_cycle}
use Rattle.xf_def_machine.specs.Profile.{Profile}
use Rattle.xf_def_machine.specs.Program.{Program}
use Rattle.xf_def_machine.specs.Start.{start}
use Rattle.xf_def_machine.specs.State.{State}
use Rattle.xf_def_machine.specs.Step.{Posted, accepted, step}
use Rattle.xf_def_machine.specs.Surround.{all_in, bind_scope}
use Rattle.xf_def_machine.specs.Update.{shown}
use Rattle.xf_def_sessions.specs.Sessions.{HasRoom, IsSessionState, Machine}
use Rattle.xf_law_machine.specs.Rest.Rests.{Rests}
use Rattle.xf_law_sessions.specs.Alike.Rested.{EndsAtRest, ReadsForms}

-- what a model keeps, but for its marks
pub record KeepsWhole (p : Profile) (s : State) (model : ℕ) : Type 0 where
  pub entries : applied (bind_scope p s model) s.forest.nodes ≡ Ok (model_at s model).entries
  pub no_cycle : reported_cycle (graph_over (bind_scope p s model) (shape_of s.forest.nodes) (model_at s model).entries) ≡ None
  pub asked : (model_at s model).asked ≡ edge_count (bind_scope p s model) (shape_of s.forest.nodes) (model_at s model).entries
  pub settled : AllOf (IsSettledAt p s model) (calculates (model_at s model).entries)
  pub within : passed p.bounds (bind_scope p s model) (model_at s model).entries (all_in s) ≡ []
  pub values : (model_at s model).stood ≡ map truly (values_over p.bounds (bind_scope p s model) (model_at s model).entries (all_in s))
  pub invalid : (model_at s model).invalid ≡ map (λ x. x.number) (filter (is_invalid p model s) (all_in s))

-- the data, the models, the indexes, the cases and the controls
pub record IsWhole (p : Profile) (s : State) : Type 0 where
  pub trees : HasTrees s.forest
  pub documents : HasDocuments s
  pub sizes : passed_by_all p.bounds.limits s.forest.nodes ≡ None
  pub depths : is_too_deep (suc p.bounds.limits.depth) 0 s.forest.nodes ≡ false
  pub models : AllOf (KeepsWhole p s) (counted_from 0 (length s.models))
  pub placed : are_placed p s ≡ true
  pub cases : are_cases s ≡ true
  pub controls : shown p s ≡ Ok s.controls

-- no more is wanting
abbrev pub RestOfParts : Type 0
RestOfParts = (p : Profile) (s : State) → Rests p s → IsWhole p s → IsAtRest p s

-- so of what is left
pub record EndsWhole (m : Machine) : Type 0 where
  pub starts : (bytes : List ℕ) (form : Program) → m.form_in bytes ≡ Some form → (answers : List Answer) (s : State) (posted : Posted)
      → start m.profile form answers ≡ accepted s posted → IsWhole m.profile s × HasRoom s
  pub steps : (bytes : List ℕ) (event : Event) (answers : List Answer) (s t : State) (posted : Posted) → m.form_in bytes ≡ Some s.form → IsSessionState m.profile s
      → step m.profile s event answers ≡ accepted t posted → IsWhole m.profile t
  pub adopted : (bytes : List ℕ) (form : Program) → m.form_in bytes ≡ Some form → (s t : State) → IsSessionState m.profile s
      → adopted m.profile s form ≡ Ok t → IsSessionState m.profile t

abbrev pub RestByWhole : Type 0
RestByWhole = (m : Machine) → ReadsForms m → EndsWhole m → EndsAtRest m

pub record WholeLaws : Type 0 where
  pub parts : RestOfParts
  pub ends : RestByWhole

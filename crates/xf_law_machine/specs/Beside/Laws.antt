-- The changes and readings of the form machine that do not look at notes and at calls of the store.
use Rattle.std.specs.Prelude.{ℕ, ◌≡◌, List, [], map, Option, Some, Result, Ok}
use Rattle.xf_def_forest.specs.declared.content.Content.{Content}
use Rattle.xf_def_forest.specs.Shape.{has_elements}
use Rattle.xf_def_xpath.specs.Setting.{Focus, Meaning}
use Rattle.xf_def_ui.specs.Around.{first_bound}
use Rattle.xf_def_ui.specs.Context.{inside}
use Rattle.xf_def_ui.specs.Elements.{element_at}
use Rattle.xf_def_ui.specs.Labels.{text_in}
use Rattle.xf_def_ui.specs.Notifications.{notifications}
use Rattle.xf_def_machine.specs.Profile.{Profile}
use Rattle.xf_def_machine.specs.State.{Model, State}
use Rattle.xf_def_machine.specs.Refusal.{Refused, or_long}
use Rattle.xf_def_machine.specs.Flow.{Run, ◌>>=◌}
use Rattle.xf_def_machine.specs.Surround.{Told, interface, all_in, instance_holding, given, around, quiet}
use Rattle.xf_def_machine.specs.Primitives.{in_model, spend, set_text, copy, plant, attach, detach}
use Rattle.xf_def_machine.specs.Properties.{readonly_in, path_in}
use Rattle.xf_def_machine.specs.SetValue.{unless_parent}
use Rattle.xf_def_machine.specs.Behave.{model_at, rebuild, recalculate, revalidate}
use Rattle.xf_def_machine.specs.Update.{reindex, shown, refresh_cleared, all_cleared, is_due, is_refresh_due}
use Rattle.xf_def_machine.specs.Construct.{plant_document, build_model, first_shown, replace, put_back}
use Rattle.xf_def_machine.specs.Events.{Fired, told_by, fired_at}
use Rattle.xf_def_machine.specs.Acting.{Acting, acting, surroundings, binding_of, value_for, truth_for, text_for, whole_for}
use Rattle.xf_def_machine.specs.Choose.{named_copy, set_index}
use Rattle.xf_def_machine.specs.Telling.{loaded_text}
use Rattle.xf_def_machine.specs.Step.{fresh, at_end}
use Rattle.xf_law_machine.specs.Beside.Beside.{beside_of, GoesBeside, TurnsBeside, ReadsBeside, MakesBeside, SameBeside}

-- the indexes are brought up to date, the controls made afresh, and what is told of the differences found
abbrev pub refreshed : Profile → (State → State) → State → Result (List Fired × State) Refused
refreshed p cleared s =
    reindex p [] s >>= λ t. shown p t >>= λ list. Ok (map told_by (notifications t.controls list), cleared (record t { controls = list }))

pub record ChangesBeside (p : Profile) : Type 0 where
  pub spend : GoesBeside spend
  pub set_text : (n : ℕ) (text : List ℕ) → GoesBeside (set_text p n text)
  -- a node whose text may be set
  pub settable : (n : ℕ) → GoesBeside (λ s. unless_parent (has_elements (all_in s) n) n (λ t. Ok t) s)
  pub in_model : (change : Model → Model) (model : ℕ) → TurnsBeside (in_model change model)
  pub rebuild : (model : ℕ) → GoesBeside (rebuild p model)
  pub recalculate : (model : ℕ) → GoesBeside (recalculate p model)
  pub revalidate : (model : ℕ) → TurnsBeside (revalidate p model)
  pub reindex : (added : List ℕ) → GoesBeside (reindex p added)
  pub set_index : (model repeat index : ℕ) → GoesBeside (set_index p model repeat index)
  pub shown : ReadsBeside (shown p)
  pub refresh_cleared : (model : ℕ) → TurnsBeside (refresh_cleared model)
  pub all_cleared : TurnsBeside all_cleared
  pub refreshed : (cleared : State → State) → TurnsBeside cleared → MakesBeside (refreshed p cleared)
  pub plant_document : (contents : List (ℕ × Content)) → GoesBeside (plant_document p contents)
  pub build_model : (model : ℕ) → GoesBeside (build_model p model)
  pub first_shown : GoesBeside (first_shown p)
  -- trees that come and go
  pub copy : (n : ℕ) → MakesBeside (copy p n)
  pub plant : (contents : List (ℕ × Content)) → MakesBeside (plant p contents)
  pub attach : (n parent place : ℕ) → GoesBeside (attach p n parent place)
  pub detach : (n : ℕ) → TurnsBeside (detach n)
  pub replace : (n : ℕ) (contents : List (ℕ × Content)) → GoesBeside (replace p n contents)
  pub put_back : (first : Result State Refused) (place : ℕ) → GoesBeside (put_back p first place)
  -- what an event begins and ends with
  pub fresh : SameBeside (fresh p)
  pub at_end : SameBeside (at_end p)

pub record ReadingsBeside (p : Profile) : Type 0 where
  pub is_due : SameBeside is_due
  pub is_refresh_due : SameBeside is_refresh_due
  pub model_at : (model : ℕ) → SameBeside (λ s. model_at s model)
  pub readonly_in : (n : ℕ) → SameBeside (λ s. readonly_in s n)
  pub path_in : (n : ℕ) → SameBeside (λ s. path_in s n)
  pub instance_holding : (n : ℕ) → SameBeside (λ s. instance_holding s n)
  pub given : (event : Option Told) → SameBeside (λ s. given s event)
  pub around : (event : Option Told) → SameBeside (λ s. around p s event)
  pub named_copy : (n : ℕ) → SameBeside (λ s. named_copy s n)
  pub fired_at : (name : List ℕ) (told : Told) (target : ℕ) → SameBeside (λ s. fired_at s name told target)
  pub acting : (e : Fired) (n : ℕ) → ReadsBeside (acting p e n)
  pub bound : (x : Acting) → ReadsBeside (λ s. or_long s (first_bound (surroundings p x s) x.model (binding_of x s) (Some x.focus)))
  pub value_for : (x : Acting) (c : Focus) (m : Meaning) → ReadsBeside (λ s. value_for p x s c m)
  pub truth_for : (x : Acting) (m : Meaning) → ReadsBeside (λ s. truth_for p x s m)
  pub text_for : (x : Acting) (c : Focus) (m : Meaning) → ReadsBeside (λ s. text_for p x s c m)
  pub whole_for : (x : Acting) (c : Focus) (m : Meaning) → ReadsBeside (λ s. whole_for p x s c m)
  pub loaded : (x : Acting) (resource : List ℕ) → ReadsBeside (λ s. loaded_text p x resource s (binding_of x s))
  -- the text of a message
  pub message : (x : Acting) → ReadsBeside (λ s.
      or_long s (inside (interface s) (quiet p s) x.rows x.element) >>= λ within.
      or_long s (text_in (interface s) (surroundings p x s) within (element_at (interface s) x.element)))

-- a change that does not look there leaves what it finds there
abbrev pub LeavesBeside : Type 0
LeavesBeside = (run : Run) → GoesBeside run → (s t : State) → run s ≡ Ok t → beside_of t ≡ beside_of s

abbrev pub ChangesGoBeside : Type 0
ChangesGoBeside = (p : Profile) → ChangesBeside p

abbrev pub ReadingsGoBeside : Type 0
ReadingsGoBeside = (p : Profile) → ReadingsBeside p

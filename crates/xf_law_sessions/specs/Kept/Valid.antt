-- What a model keeps of its last revalidation (XForms 1.1, section 4.3.3): the nodes of its instances that are not valid now.
use Rattle.std.specs.Prelude.{ℕ, ◌≡◌, Bool, not, ◌&&◌, map, filter}
use Rattle.xf_def_syntax.specs.declared.form.Tables.{Tables}
use Rattle.xf_def_forest.specs.Visit.{Visit}
use Rattle.xf_def_model.specs.Properties.{is_valid}
use Rattle.xf_def_machine.specs.Behave.{is_model}
use Rattle.xf_def_machine.specs.Profile.{Profile}
use Rattle.xf_def_machine.specs.Properties.{values_of}
use Rattle.xf_def_machine.specs.State.{Model, State}
use Rattle.xf_def_machine.specs.Surround.{all_in, bind_scope, model_holding}
use Rattle.xf_law_sessions.specs.Kept.Stays.{PartStays, SameForm}

-- by what the model keeps of its other behaviours
abbrev pub is_bad : Profile → ℕ → State → Model → Visit → Bool
is_bad p model s m x = is_model model (model_holding s x.number) && not (is_valid (p.meets s.form.types) (bind_scope p s model) (all_in s) m.entries (values_of m) x.number)

pub record IsRevalidated (p : Profile) (s : State) (model : ℕ) (m : Model) : Type 0 where
  pub invalid : m.invalid ≡ map (λ x. x.number) (filter (is_bad p model s m) (all_in s))

abbrev pub RevalidatedElsewhere : Type 0
RevalidatedElsewhere = (p : Profile) (tables : Tables) (s t : State) (model : ℕ) (m : Model) → SameForm tables s t → PartStays s.form.instances model s.forest t.forest →
    IsRevalidated p s model m → IsRevalidated p t model m

-- What a model keeps of its last rebuild stays where the part of the data that its instances are stays, and where the shape of all data does.
use Rattle.std.specs.Prelude.{ℕ, ◌≡◌, List}
use Rattle.xf_def_syntax.specs.declared.form.Instance.{Instance}
use Rattle.xf_def_syntax.specs.declared.form.Tables.{Tables}
use Rattle.xf_def_forest.specs.Forest.{Forest}
use Rattle.xf_def_forest.specs.Shape.{shape_of}
use Rattle.xf_law_recalculation.specs.Elsewhere.Parts.{IsPart}
use Rattle.xf_def_machine.specs.Profile.{Profile}
use Rattle.xf_def_machine.specs.State.{Model, State}
use Rattle.xf_def_machine.specs.Surround.{bind_scope}
use Rattle.xf_law_sessions.specs.Kept.Kept.{HasBinds, HasNodes, IsEntered}

-- each part of the first data is that of the second
abbrev pub PartStays : List Instance → ℕ → Forest → Forest → Type 0
PartStays instances model before after = (part : Forest) → IsPart instances model part before → IsPart instances model part after

-- two states of one form
pub record SameForm (tables : Tables) (s t : State) : Type 0 where
  pub binds : HasBinds tables s.form
  pub same : t.form ≡ s.form
  pub before : HasNodes s.forest
  pub after : HasNodes t.forest

abbrev pub EnteredElsewhere : Type 0
EnteredElsewhere = (p : Profile) (tables : Tables) (s t : State) (model : ℕ) (m : Model) → SameForm tables s t → PartStays s.form.instances model s.forest t.forest →
    IsEntered (bind_scope p s model) s.forest.nodes m → IsEntered (bind_scope p t model) t.forest.nodes m

-- as where texts are set
abbrev pub EnteredShaped : Type 0
EnteredShaped = (p : Profile) (tables : Tables) (s t : State) (model : ℕ) (m : Model) → SameForm tables s t → shape_of t.forest.nodes ≡ shape_of s.forest.nodes →
    IsEntered (bind_scope p s model) s.forest.nodes m → IsEntered (bind_scope p t model) t.forest.nodes m

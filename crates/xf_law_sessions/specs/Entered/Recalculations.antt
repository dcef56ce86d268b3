-- What the last rebuild of each model gave stays what a rebuild gives through a recalculation (XForms 1.1, section 4.3.2), which sets texts alone: so the
-- shape of the data stays.
use Rattle.std.specs.Prelude.{ℕ, ◌≡◌, Ok}
use Rattle.xf_def_syntax.specs.declared.form.Tables.{Tables}
use Rattle.xf_def_forest.specs.Needs.{IsSettable}
use Rattle.xf_def_forest.specs.Shape.{shape_of}
use Rattle.xf_def_forest.specs.WellFormed.{HasTrees}
use Rattle.xf_def_model.specs.Pertinent.{AllOf}
use Rattle.xf_def_model.specs.Settled.{calculates}
use Rattle.xf_def_machine.specs.Behave.{model_at, recalculate}
use Rattle.xf_def_machine.specs.Profile.{Profile}
use Rattle.xf_def_machine.specs.State.{State}
use Rattle.xf_law_sessions.specs.Kept.Changes.{KeepsEntered}

-- the text of each calculated node of the model can be set
abbrev pub MaySettle : ℕ → State → Type 0
MaySettle model s = AllOf (λ e. IsSettable e.node s.forest) (calculates (model_at s model).entries)

abbrev pub ShapeRecalculated : Type 0
ShapeRecalculated = (p : Profile) (model : ℕ) (s t : State) → HasTrees s.forest → MaySettle model s → recalculate p model s ≡ Ok t → shape_of t.forest.nodes ≡ shape_of s.forest.nodes

abbrev pub EnteredRecalculated : Type 0
EnteredRecalculated = (p : Profile) (tables : Tables) (model : ℕ) → KeepsEntered p tables (MaySettle model) (recalculate p model)

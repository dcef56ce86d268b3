-- What a model keeps of its last recalculation (XForms 1.1, section 4.3.2): its data are settled within the limits of strings and texts, and the values
-- are those of now. It is told by the model's part of the data.
use Rattle.std.specs.Prelude.{ℕ, ◌≡◌, false, [], map}
use Rattle.xf_def_syntax.specs.declared.form.Tables.{Tables}
use Rattle.xf_def_forest.specs.Shape.{as_texts}
use Rattle.xf_def_model.specs.Pertinent.{AllOf}
use Rattle.xf_def_model.specs.Rules.{Scope}
use Rattle.xf_def_model.specs.Settled.{Bounds, calculates, content_by, settled, values_over}
use Rattle.xf_law_recalculation.specs.Part.Whole.{has_long_text, long_entries}
use Rattle.xf_def_machine.specs.AtRest.{texts_at}
use Rattle.xf_def_machine.specs.Behave.{truly}
use Rattle.xf_def_machine.specs.Profile.{Profile}
use Rattle.xf_def_machine.specs.State.{Model, State}
use Rattle.xf_def_machine.specs.Surround.{all_in, bind_scope}
use Rattle.xf_law_sessions.specs.Kept.Kept.{IsEntered}
use Rattle.xf_law_sessions.specs.Kept.Stays.{PartStays, SameForm}

-- with what surrounds its binds
pub record IsSettledBy (b : Bounds) (scope : Scope) (s : State) (m : Model) : Type 0 where
  -- a calculated node has the text of its expression as its whole content
  pub contents : AllOf (λ e. texts_at s e.node ≡ as_texts (content_by b scope (all_in s) e).1) (calculates m.entries)
  -- no string and no text is too long over the settled data
  pub strings : long_entries b scope m.entries (settled b scope m.entries (all_in s)) ≡ []
  pub texts : has_long_text b scope m.entries (settled b scope m.entries (all_in s)) ≡ false
  pub values : m.stood ≡ map truly (values_over b scope m.entries (all_in s))

abbrev pub IsRecalculated : Profile → State → ℕ → Model → Type 0
IsRecalculated p s model m = IsSettledBy p.bounds (bind_scope p s model) s m

abbrev pub RecalculatedElsewhere : Type 0
RecalculatedElsewhere = (p : Profile) (tables : Tables) (s t : State) (model : ℕ) (m : Model) → SameForm tables s t → PartStays s.form.instances model s.forest t.forest →
    IsEntered (bind_scope p s model) s.forest.nodes m → IsRecalculated p s model m → IsRecalculated p t model m

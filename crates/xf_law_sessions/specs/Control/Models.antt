-- The models that elements, binds and instances of a form name are models of it (XForms 1.1, sections 3.2.3 and 3.3): so is the model in scope of each
-- action and of each element.
use Rattle.std.specs.Prelude.{ℕ, ◌≡◌, ◌<◌, length, Some, Ok, slice_get}
use Rattle.xf_def_syntax.specs.declared.form.Instance.{Instance}
use Rattle.xf_def_model.specs.Pertinent.{AllOf}
use Rattle.xf_def_ui.specs.Elements.{element_at}
use Rattle.xf_def_machine.specs.Acting.{Acting, acting}
use Rattle.xf_def_machine.specs.Events.{Fired}
use Rattle.xf_def_machine.specs.Profile.{Profile}
use Rattle.xf_def_machine.specs.Program.{Program}
use Rattle.xf_def_machine.specs.State.{State}
use Rattle.xf_def_machine.specs.Targets.{model_around}

-- a model with this number
abbrev pub IsModelOf : Program → ℕ → Type 0
IsModelOf form model = model < length form.model_elements

pub record HasModels (form : Program) : Type 0 where
  pub some : 0 < length form.model_elements
  pub named : (n model : ℕ) → (element_at form.interface n).model ≡ Some model → IsModelOf form model
  pub bound : (bind model : ℕ) → slice_get form.interface.bind_models bind ≡ Some model → IsModelOf form model
  pub instances : AllOf (λ (i : Instance). IsModelOf form i.model) form.instances

pub record ScopeLaws : Type 0 where
  pub acting : (p : Profile) (e : Fired) (n : ℕ) (s : State) (x : Acting) → HasModels s.form → acting p e n s ≡ Ok (Some x) → IsModelOf s.form x.model
  pub around : (form : Program) (n : ℕ) → HasModels form → IsModelOf form (model_around form.interface n)

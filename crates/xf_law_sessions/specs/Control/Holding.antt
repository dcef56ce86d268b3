-- Each node of an instance is held by a model of the form (XForms 1.1, section 3.3.2), where there are no more roots than instances.
use Rattle.std.specs.Prelude.{ℕ, ◌≤◌, ◌<◌, length}
use Rattle.xf_def_syntax.specs.declared.form.Instance.{Instance}
use Rattle.xf_def_forest.specs.WellFormed.{HasTrees}
use Rattle.xf_law_forests.specs.Root.Roots.{roots_in}
use Rattle.xf_def_model.specs.Pertinent.{AllOf}
use Rattle.xf_def_machine.specs.State.{State}
use Rattle.xf_def_machine.specs.Surround.{instances_in, model_holding}
use Rattle.xf_law_sessions.specs.Control.Leaves.{IsHeldOrOut}

-- the instances are those of models that there are
pub record HasHolders (s : State) : Type 0 where
  pub roots : length (roots_in s.forest.nodes) ≤ length (instances_in s)
  pub models : AllOf (λ (i : Instance). i.model < length s.models) (instances_in s)

abbrev pub InstancesHold : Type 0
InstancesHold = (s : State) (n : ℕ) → HasTrees s.forest → HasHolders s → IsHeldOrOut n s (model_holding s n)

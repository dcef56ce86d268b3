-- What the faults of a rebuild tell of a state.
use Rattle.std.specs.Prelude.{ℕ, ◌≡◌, List, map}
use Rattle.xf_def_syntax.specs.declared.form.Instance.{Instance}
use Rattle.xf_def_forest.specs.declared.node.NodeId.{NodeId}
use Rattle.xf_def_forest.specs.Forest.{Forest}
use Rattle.xf_def_machine.specs.State.{State}
use Rattle.xf_def_machine.specs.Surround.{instances_in}
use Rattle.xf_def_machine.specs.Properties.{path_in}
use Rattle.xf_binds_rebuild.specs.Rebuilt.{Stop, exception, edges, circular}
use Rattle.xf_def_model.specs.Applied.{twice, on_parent}
use Rattle.xf_binds_rebuild.specs.Machine.{refusal_of}
use Rattle.xf_binds_rebuild.specs.declared.fault.RebuildFault.{RebuildFault}
use Rattle.xf_binds_rebuild.specs.declared.fault.RebuildFault.TheVariants as fault
use Rattle.xf_def_machine.specs.Told.{Tells}
use Rattle.xf_engine_state.specs.declared.fault.WorkFault.{WorkFault}
use Rattle.xf_engine_state.specs.declared.fault.WorkFault.TheVariants.{Refused, Memory}

abbrev pub numbers : List NodeId → List ℕ
numbers ids = map (λ n. n.number) ids

-- a state with these instances and this forest
pub record IsOver (s : State) (instances : List Instance) (forest : Forest) : Type 0 where
  pub tables : instances_in s ≡ instances
  pub nodes : s.forest ≡ forest

abbrev pub ArePaths : List Instance → Forest → List ℕ → List (List ℕ) → Type 0
ArePaths instances forest ns paths = (s : State) → IsOver s instances forest → paths ≡ map (path_in s) ns

abbrev pub IsSaid : List Instance → Forest → WorkFault → Stop → Type 0
IsSaid instances forest (Refused refusal) stop = (s : State) → IsOver s instances forest → Tells refusal (refusal_of s stop)
IsSaid instances forest Memory stop = Unit {0}

-- only want of memory is free
abbrev pub IsTold : List Instance → Forest → RebuildFault → WorkFault → Type 0
IsTold instances forest (fault.Twice node) told = IsSaid instances forest told (exception (twice node.number))
IsTold instances forest (fault.OnParent node) told = IsSaid instances forest told (exception (on_parent node.number))
IsTold instances forest fault.Edges told = IsSaid instances forest told edges
IsTold instances forest (fault.Circular nodes) told = IsSaid instances forest told (circular nodes)
IsTold instances forest fault.Memory told = told ≡ Memory

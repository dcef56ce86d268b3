-- The data of the instances of a form, planted one after the other.
use Rattle.std.specs.Prelude.{ℕ, ◌≡◌, List, map, Result, Ok, Err}
use Rattle.xf_def_syntax.specs.declared.form.Instance.{Instance}
use Rattle.xf_def_forest.specs.declared.fault.TreeFault.{TreeFault}
use Rattle.xf_def_forest.specs.declared.fault.TreeFault.TheVariants as tree
use Rattle.xf_def_forest.specs.Forest.{Forest}
use Rattle.xf_def_machine.specs.declared.limit.LimitWord.TheVariants as word
use Rattle.xf_def_machine.specs.Construct.{plant_document, unbuilt}
use Rattle.xf_def_machine.specs.Flow.{in_turn}
use Rattle.xf_def_machine.specs.Refusal.{Refused}
use Rattle.xf_def_machine.specs.State.{State}
use Rattle.xf_form.specs.declared.loaded.Loaded.{Loaded}
use Rattle.xf_def_machine.specs.declared.refusal.Refusal.TheVariants.{Limit}
use Rattle.xf_engine_state.specs.declared.fault.WorkFault.{WorkFault}
use Rattle.xf_engine_state.specs.declared.fault.WorkFault.TheVariants as fault
use Rattle.xf_def_form.specs.Formed.{profile, document_of, program_in}
use Rattle.xf_engine_state.specs.Does.{IsRefused, Twin}
use Rattle.xf_engine_state.specs.Standing.{state_of}

-- with these data, of which so many nodes were made
abbrev pub growing : Loaded → Forest → ℕ → State
growing loaded forest made = record (unbuilt profile (program_in loaded)) { forest = forest; made = made }

-- a step or all of them, to these data; the answer is how many nodes were made
abbrev pub Grows : Result ℕ WorkFault → Loaded → Forest → Result State Refused → Type 0
Grows (Ok made) loaded forest given = given ≡ Ok (growing loaded forest made)
Grows (Err (fault.Refused refusal)) loaded forest given = IsRefused refusal given
Grows (Err fault.Memory) loaded forest given = Unit {0}

abbrev pub planted_by : Loaded → Result State Refused
planted_by loaded = in_turn (plant_document profile) (program_in loaded).documents (unbuilt profile (program_in loaded))

abbrev pub document_in : Loaded → Instance → Forest → ℕ → Result State Refused
document_in loaded instance forest made = plant_document profile (document_of loaded.prefixes loaded.lit instance) (growing loaded forest made)

-- those of some instances
abbrev pub documents_grown : Loaded → List Instance → Forest → ℕ → Result State Refused
documents_grown loaded instances forest made = in_turn (plant_document profile) (map (document_of loaded.prefixes loaded.lit) instances) (growing loaded forest made)

-- all of them, no model built, and the same at the end of the last event
pub record IsBegun (t : Twin) (given : Result State Refused) : Type 0 where
  pub now : given ≡ Ok (state_of t.now)
  pub kept : t.kept ≡ record { standing = t.now; built = 0 }
  pub built : t.built ≡ 0

abbrev pub IsPlanted : Result Twin WorkFault → Result State Refused → Type 0
IsPlanted (Ok t) given = IsBegun t given
IsPlanted (Err (fault.Refused refusal)) given = IsRefused refusal given
IsPlanted (Err fault.Memory) given = Unit {0}

-- what a fault of the tree tells: names are not asked
abbrev pub fault_of : TreeFault → WorkFault
fault_of tree.Nodes = fault.Refused (Limit word.Nodes)
fault_of tree.NodeText = fault.Refused (Limit word.Text)
fault_of tree.AllText = fault.Refused (Limit word.All)
fault_of tree.Depth = fault.Refused (Limit word.Depth)
fault_of other = fault.Memory

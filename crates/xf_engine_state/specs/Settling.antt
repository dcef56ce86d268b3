-- The settling of a model's texts over a draft, and why it is refused.
use Rattle.std.specs.Prelude.{ℕ, ◌≡◌, List, [], map, Contains}
use Rattle.xf_def_forest.specs.Changes.{in_detached}
use Rattle.xf_def_forest.specs.Forest.{Forest}
use Rattle.xf_def_forest.specs.Shape.{shape_of}
use Rattle.xf_def_machine.specs.declared.limit.LimitWord.{LimitWord}
use Rattle.xf_def_machine.specs.declared.limit.LimitWord.TheVariants as word
use Rattle.xf_def_machine.specs.Refusal.{word_of}
use Rattle.xf_def_model.specs.Settled.{Passed}
use Rattle.xf_def_machine.specs.declared.refusal.Refusal.TheVariants.{Limit}
use Rattle.xf_binds.specs.Kept.{Kept}
use Rattle.xf_form.specs.declared.loaded.Loaded.{Loaded}
use Rattle.xf_recalc.specs.declared.fault.SettleFault.{SettleFault}
use Rattle.xf_recalc.specs.declared.fault.SettleFault.TheVariants as settle
use Rattle.xf_engine_state.specs.declared.fault.WorkFault.{WorkFault}
use Rattle.xf_engine_state.specs.declared.fault.WorkFault.TheVariants.{Refused, Memory}
use Rattle.xf_engine_state.specs.declared.flags.Flags.{Flags}
use Rattle.xf_engine_state.specs.Built.{IsWhole}

-- whatever is built over the one is so over the other, which has its shape, and no detached tree where the one has none
pub record StaysWhole (l : Loaded) (before after : Forest) : Type 0 where
  pub whole : (table : List Kept) (flags : List Flags) (built : ℕ) → IsWhole l before table flags built → IsWhole l after table flags built
  pub shape : shape_of after.nodes ≡ shape_of before.nodes
  pub alone : in_detached before.nodes ≡ [] → in_detached after.nodes ≡ []

abbrev pub fault_of : SettleFault → WorkFault
fault_of settle.Long = Refused (Limit word.Long)
fault_of settle.Text = Refused (Limit word.Text)
fault_of settle.Nodes = Refused (Limit word.Nodes)
fault_of settle.AllTexts = Refused (Limit word.All)
fault_of settle.Memory = Memory

-- one of the limits is told that are passed; want of memory is free
abbrev pub IsPassed : WorkFault → List Passed → Type 0
IsPassed (Refused refusal) words = (word : LimitWord) × (refusal ≡ Limit word) × Contains (map word_of words) word
IsPassed Memory words = Unit {0}

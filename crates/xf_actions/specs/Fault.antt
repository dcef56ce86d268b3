-- The refusal of the machine that a fault of an event means.
use Rattle.std.specs.Prelude.{Option, Some, None}
use Rattle.xf_def_xpath.specs.declared.fault.EvalFault.{EvalFault}
use Rattle.xf_def_xpath.specs.declared.fault.EvalFault.TheVariants as eval
use Rattle.xf_def_machine.specs.declared.limit.LimitWord.TheVariants.{Long}
use Rattle.xf_def_machine.specs.declared.refusal.Refusal.TheVariants.{Limit}
use Rattle.xf_def_machine.specs.Refusal as machine
use Rattle.xf_def_machine.specs.Told.{told}
use Rattle.xf_actions.specs.declared.fault.EventFault.{EventFault}
use Rattle.xf_actions.specs.declared.fault.EventFault.TheVariants.{Refused, Memory}

abbrev pub means : EventFault → Option machine.Refusal
means (Refused refusal) = Some (told refusal)
means Memory = None

-- the fault of an evaluation
abbrev pub fault_of : EvalFault → EventFault
fault_of eval.Long = Refused (Limit Long)
fault_of eval.Memory = Memory

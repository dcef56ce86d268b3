-- The fault of an event that the fault of what an engine works on is.
use Rattle.std.specs.Prelude.{Result, Ok, Err}
use Rattle.xf_actions.specs.declared.fault.EventFault.{EventFault}
use Rattle.xf_actions.specs.declared.fault.EventFault.TheVariants.{Refused, Memory}
use Rattle.xf_engine_state.specs.declared.fault.WorkFault.{WorkFault}
use Rattle.xf_engine_state.specs.declared.fault.WorkFault.TheVariants as work

abbrev pub fault_of_work : WorkFault → EventFault
fault_of_work (work.Refused refusal) = Refused refusal
fault_of_work work.Memory = Memory

-- an answer of it
abbrev pub event_of : {X : Type 0} → Result X WorkFault → Result X EventFault
event_of (Ok x) = Ok x
event_of (Err fault) = Err (fault_of_work fault)

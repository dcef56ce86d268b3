-- What a refusal means does not depend on what stands afterwards.
use Rattle.std.proofs.Common.{Result, Err}
use Rattle.xf_def_machine.specs.Refusal.{Refused}
use Rattle.xf_def_machine.specs.State.{State}
use Rattle.xf_engine_state.specs.declared.fault.WorkFault.{WorkFault}
use Rattle.xf_engine_state.specs.declared.fault.WorkFault.TheVariants as fault
use Rattle.xf_engine_state.specs.Does.{Does}
use Rattle.xf_engine_state.specs.Standing.{Standing}

pub does-any : (told : WorkFault) (one other : Standing) (given : Result State Refused) → Does {X = Unit {0}} (Err told) one given → Does {X = Unit {0}} (Err told) other given
does-any (fault.Refused refusal) one other given h = h
does-any fault.Memory one other given h = h

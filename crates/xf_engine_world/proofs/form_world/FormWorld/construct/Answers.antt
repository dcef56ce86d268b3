use Rattle.xf_engine_world.specs.State.{state_of}
use Rattle.xf_engine_world.proofs.ConstructionLaws.{constructed-world, unconstructed}
use Rattle.xf_engine_world.proofs.form_world.FormWorld.construct.Goals as goal

pub returns-in-Ok : goal.returns-in-Ok
returns-in-Ok c = constructed-world c.in-Ok.work _ (state_of c.over_work.result) c.over_work.ensures c.in-Ok.ensures

pub returns-in-Err : goal.returns-in-Err
returns-in-Err c = unconstructed c.in-Err.fault c.event_fault.result _ c.event_fault.ensures c.in-Err.ensures

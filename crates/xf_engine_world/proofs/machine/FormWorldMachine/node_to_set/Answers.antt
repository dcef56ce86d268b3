use Rattle.xf_actions.proofs.Flow.{reads-stopped}
use Rattle.xf_engine_world.specs.State.{state_of}
use Rattle.xf_engine_world.proofs.TryLaws.{node-uncopied}
use Rattle.xf_engine_world.proofs.machine.FormWorldMachine.node_to_set.Goals as goal

pub returns-in_err-copy : goal.returns-in_err-copy
returns-in_err-copy c =
    let s = state_of c.args.self.now in
    reads-stopped _ _ s _ _ _ c.from_residual.ensures.1 (node-uncopied s c.args.element c.args.rows.now c.args.text.now _ _ c.in_err-copy.ensures)

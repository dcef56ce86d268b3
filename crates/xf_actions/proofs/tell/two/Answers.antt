use Rattle.xf_actions.proofs.Flow.{reads-stopped, refuses-any, refuses-none}
use Rattle.xf_actions.proofs.tell.two.Goals as goal

pub returns-in_err-events : goal.returns-in_err-events
returns-in_err-events g c = reads-stopped _ _ (g.W.World.state c.args.world.now) _ _ _ c.from_residual.ensures.1 (refuses-any _ _ _ _ c.in_err-events.ensures)

pub returns-in-Err : goal.returns-in-Err
returns-in-Err g c = refuses-none _ _ _ c.memory.ensures

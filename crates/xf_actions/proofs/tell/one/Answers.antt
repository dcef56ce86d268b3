use Rattle.xf_actions.proofs.Flow.{refuses-none}
use Rattle.xf_actions.proofs.tell.one.Goals as goal

pub returns-in-Err : goal.returns-in-Err
returns-in-Err g c = refuses-none _ _ _ c.memory.ensures

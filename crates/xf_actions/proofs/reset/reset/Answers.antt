use Rattle.xf_actions.proofs.Flow.{stopped, same-runs, refuses-any}
use Rattle.xf_actions.proofs.Resets.{reset-stops, reset-done}
use Rattle.xf_actions.proofs.reset.reset.Goals as goal

pub returns-in_err-instances-clause-done : goal.returns-in_err-instances-clause-done
returns-in_err-instances-clause-done g c = stopped _ _ _ _ _ c.from_residual.ensures.1 (refuses-any _ _ _ _ c.in_err-instances.ensures)

pub returns-in_err-put_all_back-clause-done : goal.returns-in_err-put_all_back-clause-done
returns-in_err-put_all_back-clause-done g c =
    stopped _ _ _ _ _ c.from_residual-in_err-put_all_back.ensures.1
    (reset-stops g.W.World.profile c.args.model (g.W.World.state c.args.world.now) c.in_ok-instances.instances _ _ c.in_ok-instances.ensures (rw c.as_slice.ensures at c.in_err-put_all_back.ensures.done))

pub returns-clause-done : goal.returns-clause-done
returns-clause-done g c =
    same-runs _ _ _ _ _ (reset-done g.W.World.profile c.args.model (g.W.World.state c.args.world.now) (g.W.World.state c.put_all_back.new.world) c.in_ok-instances.instances c.in_ok-instances.ensures (rw c.as_slice.ensures at c.in_ok-put_all_back.ensures.done))
    (rw c.new-none.ensures at c.reindex.ensures.done)

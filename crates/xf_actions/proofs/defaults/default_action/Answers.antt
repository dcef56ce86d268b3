use Rattle.xf_actions.specs.declared.defaults.DefaultAction.TheVariants.{Quiet, Refresh, Submit, Send}
use Rattle.xf_actions.specs.Seen.{fired_of}
use Rattle.xf_actions.proofs.Flow.{leaves-stopped, same-leaves, same-refuses}
use Rattle.xf_actions.proofs.Stores.{called-still}
use Rattle.xf_actions.proofs.Doings.{refuses-untold}
use Rattle.xf_actions.proofs.DefaultActions.{defaulted-done, refuses-telling}
use Rattle.xf_actions.proofs.defaults.default_action.Goals as goal

-- ---- what is refused

pub returns-in_err-act_quietly-in-Quiet-clause-done : goal.returns-in_err-act_quietly-in-Quiet-clause-done
returns-in_err-act_quietly-in-Quiet-clause-done g c answers h =
    leaves-stopped _ _ (g.W.World.state c.act_quietly.new.world) _ _ _ c.from_residual.ensures.1
    (same-refuses _ _ _ _ (defaulted-done g.W.World.profile answers (fired_of c.args.fired.now) (g.W.World.state c.args.world.now) (Quiet c.in-Quiet.action) c.in-Quiet.ensures) (refuses-telling _ _ _ (refuses-untold _ _ _ c.in_err-act_quietly-in-Quiet.ensures.done)))

pub returns-in_err-act_quietly-in-Quiet-clause-store : goal.returns-in_err-act_quietly-in-Quiet-clause-store
returns-in_err-act_quietly-in-Quiet-clause-store g c = called-still _ _ _ c.in_err-act_quietly-in-Quiet.ensures.calls

pub returns-in_err-events-in-Refresh-clause-done : goal.returns-in_err-events-in-Refresh-clause-done
returns-in_err-events-in-Refresh-clause-done g c answers h =
    leaves-stopped _ _ (g.W.World.state c.refresh_now.new.world) _ _ _ c.from_residual-in_err-events-in-Refresh.ensures.1
    (same-refuses _ _ _ _ (defaulted-done g.W.World.profile answers (fired_of c.args.fired.now) (g.W.World.state c.args.world.now) (Refresh c.in-Refresh.model) c.in-Refresh.ensures) (refuses-telling _ _ _ c.in_err-events-in-Refresh.ensures.done))

pub returns-in_err-events-in-Refresh-clause-store : goal.returns-in_err-events-in-Refresh-clause-store
returns-in_err-events-in-Refresh-clause-store g c = called-still _ _ _ c.in_err-events-in-Refresh.ensures.calls

pub returns-in_err-events-in-Send-clause-done : goal.returns-in_err-events-in-Send-clause-done
returns-in_err-events-in-Send-clause-done g c answers h =
    leaves-stopped _ _ (g.W.World.state c.args.world.now) _ _ _ c.from_residual-in_err-events-in-Send.ensures.1
    (same-refuses _ _ _ _ (defaulted-done g.W.World.profile answers (fired_of c.args.fired.now) (g.W.World.state c.args.world.now) (Send c.in-Send.target) c.in-Send.ensures) (refuses-telling _ _ _ c.in_err-events-in-Send.ensures))

pub returns-in-Submit-clause-done : goal.returns-in-Submit-clause-done
returns-in-Submit-clause-done g c answers h =
    same-leaves _ _ (g.W.World.state c.submit.new.self) _ _ _ (defaulted-done g.W.World.profile answers (fired_of c.args.fired.now) (g.W.World.state c.args.world.now) (Submit c.in-Submit.submission) c.in-Submit.ensures) (c.submit.ensures.done answers h)

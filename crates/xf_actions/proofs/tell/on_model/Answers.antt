use Rattle.std.proofs.Common.{rules}
use Rattle.xf_actions.proofs.Flow.{reads-stopped, refuses-any, one-read}
use Rattle.xf_actions.proofs.tell.on_model.Goals as goal

pub returns-in_err-event : goal.returns-in_err-event
returns-in_err-event g c = reads-stopped _ _ (g.W.World.state c.args.world.now) _ _ _ c.from_residual.ensures.1 (refuses-any _ _ _ _ c.in_err-event.ensures)

pub returns : goal.returns
returns g c = one-read _ _ _ _ _ _ c.one.ensures (search rules)

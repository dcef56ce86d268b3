use Rattle.std.proofs.Common.{ap, rules}
use Rattle.xf_actions.specs.Changed.{sent}
use Rattle.xf_actions.proofs.Flow.{reads-stopped, same-reads, refuses-any, one-read}
use Rattle.xf_actions.proofs.tell.sent.Goals as goal

pub returns-in_err-event-in-Some : goal.returns-in_err-event-in-Some
returns-in_err-event-in-Some g c = reads-stopped _ _ (g.W.World.state c.args.world.now) _ _ _ c.from_residual.ensures.1 (refuses-any _ _ _ _ c.in_err-event-in-Some.ensures)

pub returns-in_ok-event-in-Some : goal.returns-in_ok-event-in-Some
returns-in_ok-event-in-Some g c =
    same-reads _ _ (g.W.World.state c.args.world.now) _ _ _ (ap (λ o. sent o (g.W.World.state c.args.world.now)) c.in-Some.is) (one-read _ _ _ _ _ _ c.one.ensures (search rules))

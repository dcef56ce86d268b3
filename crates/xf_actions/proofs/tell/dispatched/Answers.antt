use Rattle.std.proofs.Common.{rules}
use Rattle.xf_actions.proofs.Flow.{reads-stopped, same-reads, refuses-any, one-read}
use Rattle.xf_actions.proofs.WorkKinds.{dispatched-some}
use Rattle.xf_actions.proofs.tell.dispatched.Goals as goal

pub returns-in_err-named_copy : goal.returns-in_err-named_copy
returns-in_err-named_copy g c = reads-stopped _ _ (g.W.World.state c.args.world.now) _ _ _ c.from_residual.ensures.1 (refuses-any _ _ _ _ c.in_err-named_copy.ensures)

pub returns-in_err-event-in-Some : goal.returns-in_err-event-in-Some
returns-in_err-event-in-Some g c = reads-stopped _ _ (g.W.World.state c.args.world.now) _ _ _ c.from_residual-in_err-event-in-Some.ensures.1 (refuses-any _ _ _ _ c.in_err-event-in-Some.ensures)

pub returns-in_ok-event-in-Some : goal.returns-in_ok-event-in-Some
returns-in_ok-event-in-Some g c =
    same-reads _ _ (g.W.World.state c.args.world.now) _ _ _ (dispatched-some c.args.work.now (g.W.World.state c.args.world.now) c.in_ok-named_copy.field-0 c.in-Some.rows c.in_ok-named_copy.ensures c.in-Some.is)
    (one-read _ _ _ _ _ _ c.one.ensures (search rules))

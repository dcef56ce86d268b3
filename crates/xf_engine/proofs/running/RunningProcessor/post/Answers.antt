use Rattle.xf_engine.proofs.RunningLaws.{given-back, idle-seen, none-given, posts, unposts}
use Rattle.xf_engine.proofs.running.RunningProcessor.post.Goals as goal

pub returns-in-Ok-clause-done : goal.returns-in-Ok-clause-done
returns-in-Ok-clause-done g c =
    let idle = idle-seen g.W.World.kept c.args.self.now c.self.inside.is_pending c.self.inside.world c.self.view_is c.requires in
    rw (← c.self.view_is)
    (posts c.self.inside.is_pending (g.W.World.state c.self.inside.world) (g.W.World.kept c.self.inside.world) idle c.self.invariant (g.W.World.state c.handle-handled.new.world) c.args.event.now _ _ _ _ _
    c.in-Ok.ensures.store c.calls_are_covered.ensures c.in-Ok.ensures.done)

pub returns-in-Ok-clause-kept : goal.returns-in-Ok-clause-kept
returns-in-Ok-clause-kept g c =
    let idle = idle-seen g.W.World.kept c.args.self.now c.self.inside.is_pending c.self.inside.world c.self.view_is c.requires in
    rw (← c.self.view_is)
    (given-back c.self.inside.is_pending (g.W.World.state c.self.inside.world) (g.W.World.kept c.self.inside.world) idle c.self.invariant (g.W.World.kept c.handle-handled.new.world) c.in-Ok.ensures.kept)

pub returns-in-Err-clause-done : goal.returns-in-Err-clause-done
returns-in-Err-clause-done g c =
    let idle = idle-seen g.W.World.kept c.args.self.now c.self.inside.is_pending c.self.inside.world c.self.view_is c.requires in
    rw (← c.self.view_is)
    (unposts c.self.inside.is_pending (g.W.World.state c.self.inside.world) (g.W.World.kept c.self.inside.world) idle c.self.invariant (g.W.World.state c.handle-handled.new.world) (g.W.World.kept c.handle-handled.new.world)
    (g.W.World.state c.roll_back.new.self) c.args.event.now c.in-Err.fault _ _ _ _ c.in-Err.ensures.store c.calls_are_covered.ensures c.in-Err.ensures.done
    c.in-Err.ensures.kept c.roll_back.ensures.now)

pub returns-in-Err-clause-kept : goal.returns-in-Err-clause-kept
returns-in-Err-clause-kept g c =
    let idle = idle-seen g.W.World.kept c.args.self.now c.self.inside.is_pending c.self.inside.world c.self.view_is c.requires in
    none-given c.self.inside.is_pending (g.W.World.state c.self.inside.world) (g.W.World.kept c.self.inside.world) idle c.self.invariant (g.W.World.kept c.roll_back.new.self)

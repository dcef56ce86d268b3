use Rattle.xf_engine.proofs.RunningLaws.{rests, some-seen, taken-back}
use Rattle.xf_engine.proofs.running.RunningProcessor.roll_back.Goals as goal

pub returns-clause-state : goal.returns-clause-state
returns-clause-state g c =
    let some = some-seen g.W.World.kept c.args.self.now c.self.inside.is_pending c.self.inside.world c.self.view_is c.requires in
    rw (← c.self.view_is)
    (taken-back c.self.inside.is_pending (g.W.World.kept c.self.inside.world) (g.W.World.state c.roll_back.new.self) (g.W.World.state c.commit.new.self) some c.roll_back.ensures.now c.commit.ensures.now)

pub invariant_of-self : goal.invariant_of-self
invariant_of-self g c =
    λ e. rests (g.W.World.state c.roll_back.new.self) (g.W.World.state c.commit.new.self) (g.W.World.kept c.commit.new.self) c.commit.ensures.now c.commit.ensures.kept

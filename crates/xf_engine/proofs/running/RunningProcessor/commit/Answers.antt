use Rattle.xf_engine.proofs.RunningLaws.{rests}
use Rattle.xf_engine.proofs.running.RunningProcessor.commit.Goals as goal

pub invariant_of-self : goal.invariant_of-self
invariant_of-self g c =
    λ e. rests (g.W.World.state c.self.inside.world) (g.W.World.state c.commit.new.self) (g.W.World.kept c.commit.new.self) c.commit.ensures.now c.commit.ensures.kept

use Rattle.xf_engine_world.proofs.CallsLaws.{covered}
use Rattle.xf_engine_world.proofs.calls_made.CallsMade.are_covered.Goals as goal

pub returns : goal.returns
returns c = rw (← c.self.view_is) (covered _ c.self.invariant.answered)

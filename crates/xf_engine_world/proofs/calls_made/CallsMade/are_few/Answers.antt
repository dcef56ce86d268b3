use Rattle.xf_engine_world.proofs.CallsLaws.{few, short}
use Rattle.xf_engine_world.proofs.calls_made.CallsMade.are_few.Goals as goal

pub returns-clause-few : goal.returns-clause-few
returns-clause-few c = rw (← c.self.view_is) (few c.self.inside.calls c.self.invariant.few)

pub returns-clause-short : goal.returns-clause-short
returns-clause-short c = rw (← c.self.view_is) (short c.self.inside.calls c.self.invariant.answered)

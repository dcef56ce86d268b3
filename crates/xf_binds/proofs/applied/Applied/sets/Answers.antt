use Rattle.xf_binds.specs.Held.{holds}
use Rattle.xf_binds.proofs.Unset.{sets-is}
use Rattle.xf_binds.proofs.applied.Applied.sets.Goals as goal

pub returns : goal.returns
returns c = sets-is (holds c.self.inside.items.items) c.args.self.now c.self.inside.last c.args.property c.at.result c.is_some.result c.self.view_is c.self.invariant.2 c.at.ensures c.is_some.ensures

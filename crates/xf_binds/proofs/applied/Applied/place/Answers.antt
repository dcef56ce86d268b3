use Rattle.xf_binds.proofs.Seats.{seat-place}
use Rattle.xf_binds.proofs.applied.Applied.place.Goals as goal

pub returns : goal.returns
returns c = seat-place c.args.node.number c.args.property c.args.self.now c.seat.result c.seat.ensures

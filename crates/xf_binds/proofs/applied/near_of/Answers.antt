use Rattle.xf_binds.proofs.Nears.{near-longer, near-next}
use Rattle.xf_binds.proofs.applied.near_of.Goals as goal

pub loop-number-preserved : goal.loop-number-preserved
loop-number-preserved c = (
  near-next c.args.seats.now c.loop-number.near.items c.push.new.self.items c.seats_in.result c.loop-number.number c.loop-number.invariant.0 c.loop-number.invariant.1 c.seats_in.ensures c.in_ok-push.ensures.items,
  near-longer c.loop-number.near.items c.push.new.self.items c.seats_in.result c.loop-number.number c.loop-number.invariant.1 c.in_ok-push.ensures.items,
)

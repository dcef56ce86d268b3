use Rattle.std.proofs.Common.{◌<◌, length, sym, arith}
use Rattle.xf_binds.proofs.Places.{held-none}
use Rattle.xf_binds.proofs.Items.{seat-there, at-some}
use Rattle.xf_binds.proofs.applied.Applied.at.Goals as goal

pub index-requires : goal.index-requires
index-requires c =
    let k : c.in-Some.seat < length c.self.inside.items.items =
    seat-there c.self.inside.items.items c.args.self.now c.args.node.number c.args.property c.seat.result c.in-Some.seat c.self.view_is c.seat.ensures c.in-Some.is in
    omega (arith, k, c.self.inside.items.ok)

pub returns-in-Some : goal.returns-in-Some
returns-in-Some c =
    at-some c.self.inside.items.items c.args.self.now c.args.node.number c.args.property c.seat.result c.in-Some.seat c.index.result.now c.self.view_is c.seat.ensures c.in-Some.is c.index.ensures

pub returns-in-None : goal.returns-in-None
returns-in-None c = sym (held-none c.args.node.number c.args.property c.args.self.now c.seat.result c.seat.ensures c.in-None.is)

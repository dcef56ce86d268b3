use Rattle.std.proofs.Common.{◌≡◌, ◌<◌, length, ◌==◌, true, false, sym, arith}
use Rattle.std.proofs.lemmas.Bool.Decides.{nat_tests}
use Rattle.xf_binds.specs.Held.{entry_of}
use Rattle.xf_binds.proofs.Places.{same-none}
use Rattle.xf_binds.proofs.Items.{seat-there, same-then, same-else}
use Rattle.xf_binds.proofs.applied.Applied.same.Goals as goal

pub index-item-requires : goal.index-item-requires
index-item-requires c =
    let k : c.in-Some.seat < length c.self.inside.items.items =
    seat-there c.self.inside.items.items c.args.self.now c.args.entry.now.node.number c.args.entry.now.property c.seat_by.result c.in-Some.seat c.self.view_is c.seat_by.ensures c.in-Some.is in
    omega (arith, k, c.self.inside.items.ok)

pub returns-then-item-entry : goal.returns-then-item-entry
returns-then-item-entry c =
    let bind : (c.args.entry.now.bind == c.index-item.result.now.entry.bind) ≡ true = grind (arith, nat_tests, c.if-item-entry.true) in
    same-then c.self.inside.items.items c.args.self.now (entry_of c.args.entry.now) c.seat_by.result c.in-Some.seat c.index-item.result.now c.self.view_is c.seat_by.ensures c.in-Some.is c.index-item.ensures bind

pub returns-else-item-entry : goal.returns-else-item-entry
returns-else-item-entry c =
    let bind : (c.args.entry.now.bind == c.index-item.result.now.entry.bind) ≡ false = grind (arith, nat_tests, c.if-item-entry.false) in
    same-else c.self.inside.items.items c.args.self.now (entry_of c.args.entry.now) c.seat_by.result c.in-Some.seat c.index-item.result.now c.self.view_is c.seat_by.ensures c.in-Some.is c.index-item.ensures bind

pub returns-in-None : goal.returns-in-None
returns-in-None c = sym (same-none (entry_of c.args.entry.now) c.args.self.now c.seat_by.result c.seat_by.ensures c.in-None.is)

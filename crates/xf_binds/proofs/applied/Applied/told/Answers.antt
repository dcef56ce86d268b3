use Rattle.std.proofs.Common.{◌≡◌, ◌<◌, ◌∙◌, length, ◌==◌, true, false, arith}
use Rattle.std.proofs.lemmas.Bool.Decides.{nat_tests}
use Rattle.xf_binds.specs.Held.{entry_of}
use Rattle.xf_binds.proofs.Items.{seat-there}
use Rattle.xf_binds.proofs.Tellings.{told-else, told-none, told-then}
use Rattle.xf_binds.proofs.applied.Applied.told.Goals as goal

pub index-requires : goal.index-requires
index-requires c =
    let k : c.in-Some.seat < length c.self.inside.items.items =
    seat-there c.self.inside.items.items c.args.self.now c.args.entry.now.node.number c.args.entry.now.property c.seat_by.result c.in-Some.seat c.self.view_is c.seat_by.ensures c.in-Some.is in
    omega (arith, k, c.self.inside.items.ok)

pub returns-then-index-entry : goal.returns-then-index-entry
returns-then-index-entry c =
    let bind : (c.args.entry.now.bind == c.index.result.now.entry.bind) ≡ true = grind (arith, nat_tests, c.if-index-entry.true) in
    c.at.ensures ∙ told-then c.self.inside.items.items c.args.self.now c.args.truths.now (entry_of c.args.entry.now) c.seat_by.result c.requires c.seat_by.ensures c.in-Some.seat c.index.result.now c.self.view_is c.in-Some.is c.index.ensures bind

pub returns-else-index-entry : goal.returns-else-index-entry
returns-else-index-entry c =
    let bind : (c.args.entry.now.bind == c.index.result.now.entry.bind) ≡ false = grind (arith, nat_tests, c.if-index-entry.false) in
    told-else c.self.inside.items.items c.args.self.now c.args.truths.now (entry_of c.args.entry.now) c.seat_by.result c.requires c.seat_by.ensures c.in-Some.seat c.index.result.now c.self.view_is c.in-Some.is c.index.ensures bind

pub returns-in-None : goal.returns-in-None
returns-in-None c = told-none c.self.inside.items.items c.args.self.now c.args.truths.now (entry_of c.args.entry.now) c.seat_by.result c.requires c.seat_by.ensures c.in-None.is

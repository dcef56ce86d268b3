use Rattle.std.proofs.Common.{Some, None, ◌∙◌}
use Rattle.xf_tree_contents.proofs.SlotLemmas.{name-at}
use Rattle.xf_tree_contents.proofs.slots.Slots.name.Goals as goal

pub returns-in-Some : goal.returns-in-Some
returns-in-Some c = c.get.ensures ∙ name-at c.self.inside.slab c.self.inside.names c.args.self.now c.args.key (Some c.in-Some.number) c.self.view_is c.in-Some.ensures

pub returns-in-None : goal.returns-in-None
returns-in-None c = name-at c.self.inside.slab c.self.inside.names c.args.self.now c.args.key None c.self.view_is c.in-None.ensures

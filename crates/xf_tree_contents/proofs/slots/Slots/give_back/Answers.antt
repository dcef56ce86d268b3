use Rattle.xf_tree_contents.proofs.SlotLemmas.{room-aside}
use Rattle.xf_tree_contents.proofs.slots.Slots.give_back.Goals as goal

pub returns : goal.returns
returns c = room-aside c.self.inside.slab c.self.inside.names c.give_back.new.self c.args.self.now c.self.view_is c.give_back.ensures

use Rattle.xf_eval.proofs.Lives.{live-get}
use Rattle.xf_eval.proofs.texts.first_value.Goals as goal
use Rattle.std.proofs.Common.{sym}

pub value_of_node-requires : goal.value_of_node-requires
value_of_node-requires c = live-get c.args.nodes.now 0 c.in-Some.node.number c.args.forest.now.forest.nodes c.requires (sym c.in-Some.ensures)

use Rattle.xf_eval.proofs.Lives.{live-get}
use Rattle.xf_eval.proofs.convert.first_string.Goals as goal
use Rattle.std.proofs.Common.{sym}

pub string_of_node-requires : goal.string_of_node-requires
string_of_node-requires c = live-get c.args.nodes.now 0 c.in-Some.node.number c.args.forest.now.forest.nodes c.requires (sym c.in-Some.ensures)

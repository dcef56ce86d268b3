use Rattle.std.proofs.Common.{ap, ◌∙◌}
use Rattle.xf_def_forest.specs.Visit.{has}
use Rattle.xf_binds.proofs.NodeSets.{has-turned}
use Rattle.xf_binds.proofs.node_set.NodeSet.has.Goals as goal

pub returns-then-len-le-FEW : goal.returns-then-len-le-FEW
returns-then-len-le-FEW c = c.has.ensures ∙ has-turned c.args.node.number c.self.inside.nodes ∙ ap (has c.args.node.number) c.self.view_is

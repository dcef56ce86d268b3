use Rattle.std.proofs.Common.{◌++◌, append-nil, map, sym, ap, ◌∙◌}
use Rattle.xf_tree_walks.specs.Nodes.{node_of}
use Rattle.xf_tree_walks.proofs.SoughtLemmas.{met-absent}
use Rattle.xf_tree_walks.proofs.chosen.push_on_axis.Goals as goal

pub returns-in_default : goal.returns-in_default
returns-in_default c =
    sym (ap (λ l. c.args.found.now ++ l) (met-absent c.args.axis c.args.sought (map (node_of c.args.slots.now) c.args.rows.now.items) c.args.node.number c.in_default.ensures) ∙ append-nil c.args.found.now)

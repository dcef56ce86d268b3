use Rattle.std.proofs.Common.{sym}
use Rattle.std.proofs.lemmas.List.Elements.{All-push, All-same}
use Rattle.xf_def_forest.proofs.LiveLaws.{parent-live}
use Rattle.xf_tree_paths.specs.Opened.{IsOpen}
use Rattle.xf_tree_paths.proofs.opened.push_below.Goals as goal

pub take_open-requires-clause-live : goal.take_open-requires-clause-live
take_open-requires-clause-live c = parent-live c.args.node.number c.in-Some-parent.parent.number c.args.forest.now.forest.nodes (sym c.in-Some-parent.ensures)

pub returns-clause-nodes : goal.returns-clause-nodes
returns-clause-nodes c =
    let nodes = c.args.forest.now.forest.nodes in
    All-same (IsOpen nodes) c.push.new.self.items _ c.in_ok-push.ensures.items (All-push (IsOpen nodes) c.take_open.new.nodes.items c.push_child-stem.new.parent c.take_open.ensures.nodes c.push_child-stem.ensures.one)

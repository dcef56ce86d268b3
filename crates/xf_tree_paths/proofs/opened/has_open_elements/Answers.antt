use Rattle.std.proofs.lemmas.List.Elements.{All-push, All-same}
use Rattle.xf_tree_paths.specs.Opened.{IsOpen}
use Rattle.xf_tree_paths.proofs.opened.has_open_elements.Goals as goal

pub returns-clause-nodes : goal.returns-clause-nodes
returns-clause-nodes c =
    let nodes = c.args.forest.now.forest.nodes in
    All-same (IsOpen nodes) c.push.new.self.items _ c.in_ok-push.ensures.items (All-push (IsOpen nodes) c.take_open.new.nodes.items c.in_ok-one.one c.take_open.ensures.nodes c.in_ok-one.ensures.one)

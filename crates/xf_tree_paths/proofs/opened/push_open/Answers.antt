use Rattle.std.proofs.lemmas.List.Elements.{All-push, All-same}
use Rattle.xf_tree_paths.specs.Opened.{IsOpen}
use Rattle.xf_tree_paths.proofs.opened.push_open.Goals as goal

pub returns : goal.returns
returns c =
    let nodes = c.args.forest.now.forest.nodes in
    record { nodes = All-same (IsOpen nodes) c.push.new.self.items _ c.in_ok-push.ensures.items (All-push (IsOpen nodes) c.args.nodes.now.items c.in_ok-one.one c.requires.nodes c.in_ok-one.ensures.one) }

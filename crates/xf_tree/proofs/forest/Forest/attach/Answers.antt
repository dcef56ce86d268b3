use Rattle.xf_tree.proofs.NeedLemmas.{attach-place, node-live, parent-live}
use Rattle.xf_tree.proofs.forest.Forest.attach.Goals as goal

pub is_too_deep-requires-clause-node : goal.is_too_deep-requires-clause-node
is_too_deep-requires-clause-node c = node-live c.args.node.number c.args.parent.number c.args.self.now.forest (attach-place _ _ c.args.place _ c.requires)

pub is_too_deep-requires-clause-parent : goal.is_too_deep-requires-clause-parent
is_too_deep-requires-clause-parent c = parent-live c.args.node.number c.args.parent.number c.args.self.now.forest (attach-place _ _ c.args.place _ c.requires)

pub place_of-place-requires-clause-node : goal.place_of-place-requires-clause-node
place_of-place-requires-clause-node c = node-live c.args.node.number c.args.parent.number c.args.self.now.forest (attach-place _ _ c.args.place _ c.requires)

pub place_of-place-requires-clause-parent : goal.place_of-place-requires-clause-parent
place_of-place-requires-clause-parent c = parent-live c.args.node.number c.args.parent.number c.args.self.now.forest (attach-place _ _ c.args.place _ c.requires)

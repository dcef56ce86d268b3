use Rattle.std.proofs.Common.{sym, ap, ◌∙◌, map, take}
use Rattle.std.specs.List.{take-map}
use Rattle.xf_def_forest.specs.declared.node.NodeId.{NodeId}
use Rattle.xf_def_forest.proofs.node.NodeList.truncate.Goals as goal

pub returns : goal.returns
returns c = ap (map (λ (n : NodeId). n.number)) c.truncate.ensures.items ∙ sym (take-map (λ (n : NodeId). n.number) c.args.count c.self.inside.nodes.items) ∙ ap (take c.args.count) c.self.view_is

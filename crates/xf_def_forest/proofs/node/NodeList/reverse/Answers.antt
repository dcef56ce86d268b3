use Rattle.std.proofs.Common.{ap, ◌∙◌, map, reverse}
use Rattle.xf_def_forest.specs.declared.node.NodeId.{NodeId}
use Rattle.xf_def_forest.proofs.RenumberLaws.{map-reverse}
use Rattle.xf_def_forest.proofs.node.NodeList.reverse.Goals as goal

pub returns : goal.returns
returns c = ap (map (λ (n : NodeId). n.number)) c.reverse.ensures.items ∙ map-reverse (λ (n : NodeId). n.number) c.self.inside.nodes.items ∙ ap reverse c.self.view_is

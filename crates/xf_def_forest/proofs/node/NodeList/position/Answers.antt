use Rattle.std.proofs.Common.{◌==◌, sym, ◌∙◌, ap}
use Rattle.std.specs.List.{position}
use Rattle.xf_def_forest.specs.declared.node.NodeId.{NodeId}
use Rattle.xf_def_forest.proofs.NodeLemmas.{position-map}
use Rattle.xf_def_forest.proofs.node.NodeList.position.Goals as goal

pub returns : goal.returns
returns c =
    let k = c.args.node.number in
    c.position_of.ensures
    ∙ ap (position (λ (n : NodeId). n.number == k)) c.deref.ensures.value
    ∙ sym (position-map k c.self.inside.nodes.items)
    ∙ ap (position (λ n. n == k)) c.self.view_is

use Rattle.std.proofs.Common.{◌==◌, sym, ◌∙◌, ap}
use Rattle.std.specs.List.{list_any}
use Rattle.xf_def_forest.specs.declared.node.NodeId.{NodeId}
use Rattle.xf_def_forest.proofs.NodeLemmas.{any-map}
use Rattle.xf_def_forest.proofs.node.NodeList.has.Goals as goal

pub returns : goal.returns
returns c =
    let k = c.args.node.number in
    c.has_number.ensures
    ∙ ap (list_any (λ (n : NodeId). n.number == k)) c.deref.ensures.value
    ∙ sym (any-map k c.self.inside.nodes.items)
    ∙ ap (list_any (λ n. n == k)) c.self.view_is

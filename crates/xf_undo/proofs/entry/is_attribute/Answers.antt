use Rattle.std.proofs.Common.{sym, ◌∙◌}
use Rattle.xf_def_forest.specs.Forest.{has_number}
use Rattle.xf_undo.proofs.ChildLemmas.{attribute-test, attribute-none, not-live}
use Rattle.xf_undo.proofs.entry.is_attribute.Goals as goal

pub returns-then-not-is_live : goal.returns-then-not-is_live
returns-then-not-is_live c =
    let nodes = c.args.forest.now.forest.nodes in
    sym (attribute-none c.args.node.number nodes (not-live (has_number c.args.node.number nodes) c.is_live.result c.is_live.ensures.1 c.if-not-is_live.true))

pub returns : goal.returns
returns c = c.is_attribute_kind.ensures ∙ sym (attribute-test c.kind.result c.args.node.number c.args.forest.now.forest.nodes c.requires c.kind.ensures)

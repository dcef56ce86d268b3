use Rattle.std.proofs.Common.{sym, ap, ◌∙◌}
use Rattle.xf_def_forest.proofs.LiveLaws.{parent-live}
use Rattle.xf_eval_shape.specs.Spots.{is_filled}
use Rattle.xf_eval_shape.proofs.leaf.is_beside.Goals as goal

pub has_elements-requires : goal.has_elements-requires
has_elements-requires c = parent-live c.args.node.number c.in-Some.parent.number c.args.forest.now.forest.nodes (sym c.in-Some.ensures)

pub returns-in-Some : goal.returns-in-Some
returns-in-Some c = c.has_elements.ensures ∙ ap (is_filled c.args.forest.now.forest.nodes) c.in-Some.ensures

pub returns-in-None : goal.returns-in-None
returns-in-None c = ap (is_filled c.args.forest.now.forest.nodes) c.in-None.ensures

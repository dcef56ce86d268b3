use Rattle.std.proofs.Common.{ap, arith}
use Rattle.xf_tree_rows.specs.declared.rows.Row.{Row}
use Rattle.xf_tree_walks.proofs.AxisLemmas.{depth-small}
use Rattle.xf_tree_walks.proofs.axis.child_depth.Goals as goal

pub overflow_add-result : goal.overflow_add-result
overflow_add-result c = omega (arith, ap (λ (r : Row). r.depth) c.at.ensures, depth-small c.args.rows.now.items c.args.at c.requires.steps c.requires.within, c.requires.few)

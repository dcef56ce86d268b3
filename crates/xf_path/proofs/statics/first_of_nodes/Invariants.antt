use Rattle.std.proofs.Common.{◌≡◌, map, drop}
use Rattle.xf_path.specs.StaticParts.{first_of_nodes}
use Rattle.xf_path.specs.Static.{static_of}
use Rattle.xf_path.proofs.statics.first_of_nodes.Given as goal

abbrev pub invariant-loop-expr : goal.invariant-loop-expr
invariant-loop-expr l = first_of_nodes (map static_of (drop l.expr-index l.exprs)) ≡ first_of_nodes (map static_of l.exprs)

use Rattle.std.proofs.Common.{◌≡◌, map, drop}
use Rattle.xf_path.specs.StaticParts.{any_gives_nodes}
use Rattle.xf_path.specs.Static.{static_of}
use Rattle.xf_path.proofs.statics.+kinds.Given as goal

abbrev pub invariant-any_gives_nodes-loop-expr : goal.invariant-any_gives_nodes-loop-expr
invariant-any_gives_nodes-loop-expr l = any_gives_nodes (map static_of (drop l.expr-index l.exprs)) ≡ any_gives_nodes (map static_of l.exprs)

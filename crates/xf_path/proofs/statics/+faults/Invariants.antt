use Rattle.std.proofs.Common.{◌≡◌, map, drop}
use Rattle.xf_path.specs.StaticParts.{first_fault, first_in_links}
use Rattle.xf_path.specs.Static.{static_of, static_of_link}
use Rattle.xf_path.proofs.statics.+faults.Given as goal

abbrev pub invariant-first_fault-loop-expr : goal.invariant-first_fault-loop-expr
invariant-first_fault-loop-expr l = first_fault (map static_of (drop l.expr-index l.exprs)) ≡ first_fault (map static_of l.exprs)

abbrev pub invariant-first_in_links-loop-link : goal.invariant-first_in_links-loop-link
invariant-first_in_links-loop-link l = first_in_links (map static_of_link (drop l.link-index l.links)) ≡ first_in_links (map static_of_link l.links)

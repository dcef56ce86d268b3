use Rattle.std.proofs.Common.{◌≡◌, map, drop}
use Rattle.xf_path.specs.StaticParts.{first_of, first_in_predicates}
use Rattle.xf_path.specs.Static.{link_in_predicate, static_of, static_of_link}
use Rattle.xf_path.proofs.statics.+predicates.Given as goal

abbrev pub invariant-first_in_predicates-loop-expr : goal.invariant-first_in_predicates-loop-expr
invariant-first_in_predicates-loop-expr l = first_in_predicates (map static_of (drop l.expr-index l.exprs)) ≡ first_in_predicates (map static_of l.exprs)

abbrev pub invariant-first_link_in_predicate-loop-link : goal.invariant-first_link_in_predicate-loop-link
invariant-first_link_in_predicate-loop-link l = first_of link_in_predicate (map static_of_link (drop l.link-index l.links)) ≡ first_of link_in_predicate (map static_of_link l.links)

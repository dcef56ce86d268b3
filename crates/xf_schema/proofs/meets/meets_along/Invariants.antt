use Rattle.std.proofs.Common.{◌≡◌}
use Rattle.std.specs.List.{list_all}
use Rattle.xf_schema.specs.Types.{way}
use Rattle.xf_schema.specs.Facets.{meets_restriction}
use Rattle.xf_schema.proofs.meets.meets_along.Given as goal

abbrev pub invariant-loop-left : goal.invariant-loop-left
invariant-loop-left l =
    list_all (meets_restriction l.kind l.text) (way l.most l.types l.fn.base)
    ≡ list_all (meets_restriction l.kind l.text) (way l.left l.types l.further)

abbrev pub decreases-loop-left : goal.decreases-loop-left
decreases-loop-left l = l.left

use Rattle.std.proofs.Common.{◌≡◌}
use Rattle.xf_schema.specs.Types.{way}
use Rattle.xf_schema.specs.Facets.{nearest_space}
use Rattle.xf_schema.proofs.meets.space_along.Given as goal

abbrev pub invariant-loop-left : goal.invariant-loop-left
invariant-loop-left l = nearest_space (way l.most l.types l.fn.base) ≡ nearest_space (way l.left l.types l.further)

abbrev pub decreases-loop-left : goal.decreases-loop-left
decreases-loop-left l = l.left

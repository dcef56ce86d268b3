use Rattle.std.proofs.Common.{◌≡◌, drop}
use Rattle.xf_schema.specs.Faults.{bad_facet_among}
use Rattle.xf_schema.proofs.rules.first_bad_facet.Given as goal

abbrev pub invariant-loop-facet : goal.invariant-loop-facet
invariant-loop-facet l = bad_facet_among l.end l.facets ≡ bad_facet_among l.end (drop l.facet-index l.facets)

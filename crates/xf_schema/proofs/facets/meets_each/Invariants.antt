use Rattle.std.proofs.Common.{◌≡◌, drop}
use Rattle.std.specs.List.{list_all}
use Rattle.xf_schema.specs.Facets.{meets_facet}
use Rattle.xf_schema.proofs.facets.meets_each.Given as goal

abbrev pub invariant-loop-facet : goal.invariant-loop-facet
invariant-loop-facet l =
    list_all (λ f. meets_facet l.kind f.kind f.value l.text) l.facets
    ≡ list_all (λ f. meets_facet l.kind f.kind f.value l.text) (drop l.facet-index l.facets)

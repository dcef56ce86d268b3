use Rattle.std.proofs.Common.{◌≡◌, ◌&&◌, drop}
use Rattle.std.specs.List.{list_any}
use Rattle.xf_schema.specs.Facets.{is_enumeration, is_equal}
use Rattle.xf_schema.proofs.facets.is_enumerated.Given as goal

abbrev pub invariant-loop-facet : goal.invariant-loop-facet
invariant-loop-facet l =
    list_any (λ f. is_enumeration f.kind && is_equal l.kind f.value l.text) l.facets
    ≡ list_any (λ f. is_enumeration f.kind && is_equal l.kind f.value l.text) (drop l.facet-index l.facets)

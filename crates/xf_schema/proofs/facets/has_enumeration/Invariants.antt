use Rattle.std.proofs.Common.{◌≡◌, drop}
use Rattle.std.specs.List.{list_any}
use Rattle.xf_schema.specs.Facets.{is_enumeration}
use Rattle.xf_schema.proofs.facets.has_enumeration.Given as goal

abbrev pub invariant-loop-facet : goal.invariant-loop-facet
invariant-loop-facet l = list_any (λ f. is_enumeration f.kind) l.facets ≡ list_any (λ f. is_enumeration f.kind) (drop l.facet-index l.facets)

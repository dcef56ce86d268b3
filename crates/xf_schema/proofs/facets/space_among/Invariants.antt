use Rattle.std.proofs.Common.{◌≡◌, drop}
use Rattle.std.specs.Prelude.{find}
use Rattle.xf_schema.specs.Facets.{is_white_space, space_in}
use Rattle.xf_schema.proofs.facets.space_among.Given as goal

abbrev pub invariant-loop-facet : goal.invariant-loop-facet
invariant-loop-facet l = space_in (find (λ f. is_white_space f.kind) l.facets) ≡ space_in (find (λ f. is_white_space f.kind) (drop l.facet-index l.facets))

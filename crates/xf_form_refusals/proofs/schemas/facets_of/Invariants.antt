use Rattle.std.proofs.Common.{◌≡◌, ◌++◌, map, drop}
use Rattle.std.specs.List.{flat_map}
use Rattle.xf_form_refusals.specs.Rows.{shown}
use Rattle.xf_form_refusals.specs.Schemas.{facet_in}
use Rattle.xf_form_refusals.proofs.schemas.facets_of.Given as goal

abbrev pub invariant-loop-part : goal.invariant-loop-part
invariant-loop-part l =
    let all = map shown l.reading.rows.now in
    l.facets ++ flat_map (facet_in all) (drop l.part-index l.parts) ≡ flat_map (facet_in all) l.parts

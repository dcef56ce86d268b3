use Rattle.std.proofs.Common.{◌≡◌, drop}
use Rattle.xf_form_explain.specs.Details.{first_found, by_pair}
use Rattle.xf_form_explain.proofs.names.by_pairs.Given as goal

abbrev pub invariant-loop-attribute : goal.invariant-loop-attribute
invariant-loop-attribute l =
    let s = l.search in
    first_found (by_pair s.number s.prefixes.now) l.attributes ≡ first_found (by_pair s.number s.prefixes.now) (drop l.attribute-index l.attributes)

use Rattle.std.proofs.Common.{◌≡◌, map, drop}
use Rattle.xf_form_vocabulary.specs.Attributes as attributes
use Rattle.xf_form_refusals.specs.Rows.{shown}
use Rattle.xf_form_explain.specs.Details.{by_attributes}
use Rattle.xf_form_explain.proofs.attributes.by_attributes.Given as goal

abbrev pub invariant-loop-one : goal.invariant-loop-one
invariant-loop-one l =
    let s = l.search in
    by_attributes s.number s.decimals s.prefixes.now (map shown s.rows.now) (shown l.row) (map attributes.shown l.known)
    ≡ by_attributes s.number s.decimals s.prefixes.now (map shown s.rows.now) (shown l.row) (map attributes.shown (drop l.one-index l.known))

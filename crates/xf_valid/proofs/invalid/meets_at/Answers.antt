use Rattle.std.proofs.Common.{ap, sym, ◌∙◌}
use Rattle.xf_schema.specs.Facets.{is_of_type}
use Rattle.xf_def_forest.specs.Visit.{visits}
use Rattle.xf_def_forest.proofs.PieceLaws.{whole-value}
use Rattle.xf_valid.proofs.AskedLemmas.{if-ok}
use Rattle.xf_valid.proofs.invalid.meets_at.Goals as goal

pub returns-in-Some : goal.returns-in-Some
returns-in-Some c =
    if-ok c.is_of_type.result _ _
    (λ met is. is ∙ ap (λ types. is_of_type types c.args.named.now c.in-Some.text.now) c.as_slice-types.ensures ∙ ap (is_of_type c.args.tables.now.types c.args.named.now) (whole-value c.args.node.number (visits c.args.forest.now.forest.nodes) c.in-Some.text.now (sym c.in-Some.ensures)))
    c.is_of_type.ensures

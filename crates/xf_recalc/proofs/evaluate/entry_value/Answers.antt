use Rattle.std.proofs.Common.{map, slice_get, ap, ◌∙◌}
use Rattle.std.specs.Prelude.{option_and_then}
use Rattle.xf_def_model.specs.Entries.{expression_in}
use Rattle.xf_def_model.specs.Rules.{rule_of}
use Rattle.xf_def_xpath.specs.declared.fault.EvalFault.TheVariants.{Long, Memory}
use Rattle.xf_eval.proofs.Bounded.{gives-same}
use Rattle.xf_recalc.proofs.Values.{value-some}
use Rattle.xf_recalc.proofs.evaluate.entry_value.Goals as goal

pub returns-in-Some-clause-value : goal.returns-in-Some-clause-value
returns-in-Some-clause-value g c =
    let given = g.A.Around.given c.args.around.now in
    gives-same Memory Long (λ v. v) c.value_at.result _ _
    (value-some given c.args.tables.now c.args.model c.args.forest.now.forest.nodes c.args.entry c.in-Some.expr.now
    (c.in-Some.ensures.value ∙ ap (λ bs. option_and_then (λ r. expression_in r c.args.entry.property) (slice_get (map rule_of bs) c.args.entry.bind)) c.as_slice.ensures))
    c.value_at.ensures.value

use Rattle.std.proofs.Common.{ap, ◌∙◌, subst, List, ℕ, Some}
use Rattle.xf_base.specs.Limits.{string_limit}
use Rattle.xf_def_values.specs.Bounded.{GivesBounded}
use Rattle.xf_def_forest.specs.Visit.{visits}
use Rattle.xf_funcs.specs.Called.{called}
use Rattle.xf_def_xpath.specs.declared.fault.EvalFault.TheVariants.{Long, Memory}
use Rattle.xf_def_model.specs.Nested.{nested}
use Rattle.xf_def_model.specs.Rules.{scope_of}
use Rattle.xf_eval_context.specs.Around.{event_of, given_by, given_in, given_with, is_event_live, numbers_of}
use Rattle.xf_eval_context.specs.Indexes.{indexes_in}
use Rattle.xf_eval_context.proofs.AroundLaws.{around-stands, documents-found}
use Rattle.xf_eval_context.proofs.bound.nodes_of_bind.Goals as goal

pub nested-requires : goal.nested-requires
nested-requires c =
    let o = c.args.over.now in
    let form = o.form.now in
    let nodes = o.forest.now.forest.nodes in
    let ds = numbers_of c.as_slice.result.now in
    around-stands (indexes_in form c.without_rows.result) form.tables.instances o.prefixes.now form.decimals nodes ds c.outside.result
    (documents-found form.tables.instances c.as_slice-instances.result.now nodes ds c.as_slice-instances.ensures (ap numbers_of c.as_slice.ensures.value ∙ c.in_ok-documents.ensures.all))
    (ap (is_event_live nodes) c.outside.ensures)

pub returns-clause-value : goal.returns-clause-value
returns-clause-value c =
    let o = c.args.over.now in
    let form = o.form.now in
    let forest = o.forest.now.forest in
    let ds = numbers_of c.as_slice.result.now in
    subst (λ g. GivesBounded {X = List ℕ} {Y = List ℕ} Memory Long (λ ns. ns) c.nested.result (nested (Some string_limit) (scope_of called g form.tables 0) (visits forest.nodes) c.args.bind))
    (ap (λ i. given_with (indexes_in form i) form.tables.instances o.prefixes.now form.decimals ds (event_of c.outside.result)) c.without_rows.ensures
    ∙ ap (λ l. given_by form.tables.instances o.prefixes.now form.decimals l (event_of c.outside.result))
    (documents-found form.tables.instances c.as_slice-instances.result.now forest.nodes ds c.as_slice-instances.ensures (ap numbers_of c.as_slice.ensures.value ∙ c.in_ok-documents.ensures.all))
    ∙ ap (λ t. given_in form.tables.instances o.prefixes.now form.decimals forest (event_of t)) c.outside.ensures)
    c.nested.ensures.value

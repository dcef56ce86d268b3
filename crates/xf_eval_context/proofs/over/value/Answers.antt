use Rattle.std.proofs.Common.{Some, sym, ap, ◌∙◌, subst}
use Rattle.xf_base.specs.Limits.{string_limit}
use Rattle.xf_def_values.specs.Bounded.{GivesBounded}
use Rattle.xf_def_forest.specs.Visit.{visits}
use Rattle.xf_funcs.specs.Called.{called}
use Rattle.xf_def_xpath.specs.declared.fault.EvalFault.TheVariants.{Long, Memory}
use Rattle.xf_def_xpath.specs.declared.value.Value.{Value}
use Rattle.xf_def_xpath.specs.Meaning.{meaning}
use Rattle.xf_def_xpath.specs.Setting.{setting_over}
use Rattle.xf_def_ui.specs.Focused.{focus_of}
use Rattle.xf_eval_context.specs.Around.{event_of, given_with, numbers_of}
use Rattle.xf_eval_context.specs.Indexes.{indexes_in}
use Rattle.xf_eval_context.proofs.AroundLaws.{around-stands, documents-found}
use Rattle.xf_eval_context.proofs.over.value.Goals as goal

pub value_at-requires : goal.value_at-requires
value_at-requires c =
    let o = c.args.over.now in
    let form = o.form.now in
    let nodes = o.forest.now.forest.nodes in
    let ds = numbers_of c.as_slice.result.now in
    record {
      around =
          around-stands (indexes_in form o.indexes) form.tables.instances o.prefixes.now form.decimals nodes ds o.told
          (documents-found form.tables.instances c.as_slice-instances.result.now nodes ds c.as_slice-instances.ensures (ap numbers_of c.as_slice.ensures.value ∙ c.in_ok-documents.ensures.all))
          (sym c.is_event_live.ensures ∙ c.if-not-is_event_live.false);
      node = sym c.is_live.ensures ∙ c.if-not-is_live.false;
      current = sym c.is_live.ensures ∙ c.if-not-is_live.false;
    }

pub returns-clause-value : goal.returns-clause-value
returns-clause-value c =
    let o = c.args.over.now in
    let form = o.form.now in
    let nodes = o.forest.now.forest.nodes in
    let f = c.args.focus.now in
    let ds = numbers_of c.as_slice.result.now in
    subst (λ l. GivesBounded {X = Value} {Y = Value} Memory Long (λ v. v) c.value_at.result (meaning c.args.expr.now (setting_over called (Some string_limit)
    (given_with (indexes_in form o.indexes) form.tables.instances o.prefixes.now form.decimals l (event_of o.told)) (visits nodes) c.args.model f.node.number) (focus_of f)))
    (documents-found form.tables.instances c.as_slice-instances.result.now nodes ds c.as_slice-instances.ensures (ap numbers_of c.as_slice.ensures.value ∙ c.in_ok-documents.ensures.all))
    c.value_at.ensures.value

use Rattle.std.proofs.Common.{Some, option_map, ap, sym, ◌∙◌}
use Rattle.xf_base.specs.Limits.{string_limit}
use Rattle.xf_def_forest.specs.declared.node.NodeId.{NodeId}
use Rattle.xf_def_forest.specs.Visit.{visits}
use Rattle.xf_def_xpath.specs.declared.fault.EvalFault.TheVariants.{Long, Memory}
use Rattle.xf_def_xpath.specs.Given.{first_document}
use Rattle.xf_def_model.specs.Submitted.{selected_by}
use Rattle.xf_eval.proofs.Bounded.{gives-same}
use Rattle.xf_eval_context.specs.Over.{around_over}
use Rattle.xf_submit.specs.Selecting.{scope_over}
use Rattle.xf_submit.proofs.SourceLaws.{first-listed}
use Rattle.xf_submit.proofs.sources.selected_node.Goals as goal

pub returns-in-Whole : goal.returns-in-Whole
returns-in-Whole c =
    let o = c.args.over.now in
    let model = c.args.submission.now.model in
    let document = first_document model (around_over o).given.documents in
    gives-same Memory Long (option_map (λ (i : NodeId). i.number)) c.first_of_whole.result _ _
    (ap Some (sym (first-listed document)) ∙ sym (ap (selected_by (Some string_limit) (scope_over o model) (visits o.forest.now.forest.nodes)) c.in-Whole.is)) c.first_of_whole.ensures

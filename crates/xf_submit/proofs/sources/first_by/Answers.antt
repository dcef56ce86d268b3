use Rattle.std.proofs.Common.{◌≡◌, Some, option_map, ap, sym, ◌∙◌}
use Rattle.xf_def_forest.specs.declared.node.NodeId.{NodeId}
use Rattle.xf_def_xpath.specs.declared.fault.EvalFault.TheVariants.{Long, Memory}
use Rattle.xf_def_xpath.specs.Given.{first_document}
use Rattle.xf_def_xpath.specs.Meaning.{meaning}
use Rattle.xf_def_xpath.specs.Setting.{Focus}
use Rattle.xf_eval.proofs.Bounded.{gives-same}
use Rattle.xf_def_ui.specs.Around.{first_stand, selected_by}
use Rattle.xf_eval_context.specs.Over.{around_over}
use Rattle.xf_submit.proofs.SourceLaws.{by-first, by-none}
use Rattle.xf_submit.proofs.sources.first_by.Goals as goal

pub returns-in-Some : goal.returns-in-Some
returns-in-Some c =
    let o = c.args.over.now in
    let a = around_over o in
    let n = c.in-Some.document.number in
    let found : first_document c.args.model a.given.documents ≡ Some n = sym c.in_ok-document.ensures ∙ ap (option_map (λ (i : NodeId). i.number)) c.in-Some.is in
    gives-same Memory Long (option_map (λ (i : NodeId). i.number)) c.first_selected.result _ _
    (ap (λ (f : Focus). option_map (first_stand a) (selected_by a c.args.model f (meaning c.args.expr.now))) c.alone.ensures ∙ by-first o c.args.model n c.args.expr.now found)
    c.first_selected.ensures

pub returns-in-None : goal.returns-in-None
returns-in-None c =
    by-none c.args.over.now c.args.model c.args.expr.now (sym c.in_ok-document.ensures ∙ ap (option_map (λ (i : NodeId). i.number)) c.in-None.is)

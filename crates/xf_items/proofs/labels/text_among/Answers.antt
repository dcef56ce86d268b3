use Rattle.std.proofs.Common.{ap, ◌∙◌, find}
use Rattle.std.specs.List.{flat_map}
use Rattle.xf_def_syntax.specs.Ordered.{child_in}
use Rattle.xf_def_xpath.specs.declared.fault.EvalFault.TheVariants.{Long, Memory}
use Rattle.xf_def_ui.specs.Elements.{element_at}
use Rattle.xf_def_ui.specs.Interface.{interface_of}
use Rattle.xf_def_ui.specs.Items.{text_if}
use Rattle.xf_def_ui.specs.Labels.{text_in}
use Rattle.xf_eval.proofs.Bounded.{gives-same}
use Rattle.xf_eval_context.specs.Inside.{seen_inside}
use Rattle.xf_eval_context.specs.Over.{around_over}
use Rattle.xf_items.specs.Items.{is_sought}
use Rattle.xf_items.proofs.labels.text_among.Goals as goal

pub returns-in-Some : goal.returns-in-Some
returns-in-Some c =
    let o = c.args.over.now in
    let f = interface_of o.form.now in
    let a = around_over o in
    let s = seen_inside c.args.within.now in
    gives-same Memory Long (λ w. w) c.text_in.result (text_in f a s (element_at f c.in-Some.first)) _
    (ap (text_if f a s) (c.in-Some.ensures ∙ ap (λ ps. find (λ m. is_sought c.args.sought (element_at f m).sort) (flat_map child_in ps)) c.parts_at.ensures))
    c.text_in.ensures

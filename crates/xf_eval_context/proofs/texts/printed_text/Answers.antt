use Rattle.std.proofs.Common.{Some, sym, ap, ◌∙◌}
use Rattle.xf_def_ui.specs.Interface.{Element, interface_of}
use Rattle.xf_form_elements.proofs.ElementLemmas.{no-element}
use Rattle.xf_eval_context.specs.Inside.{seen_inside}
use Rattle.xf_eval_context.specs.Texts.{printed_in}
use Rattle.xf_eval_context.specs.Over.{around_over}
use Rattle.xf_eval_context.proofs.texts.printed_text.Goals as goal

pub returns-in-None : goal.returns-in-None
returns-in-None c =
    let o = c.args.over.now in
    let form = o.form.now in
    ap (λ (e : Element). printed_in (interface_of form) (around_over o) (seen_inside c.args.within.now) c.args.element e.sort) (no-element form c.args.element c.in-None.ensures)
    ∙ ap (λ t. Some t) (sym c.new-in-None.ensures)

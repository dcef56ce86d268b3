use Rattle.std.proofs.Common.{ap, ◌∙◌}
use Rattle.xf_def_ui.specs.Interface.{Element, interface_of}
use Rattle.xf_form_elements.proofs.ElementLemmas.{no-element, this-element}
use Rattle.xf_eval_context.specs.Inside.{seen_inside}
use Rattle.xf_eval_context.specs.Over.{around_over}
use Rattle.xf_items.specs.Items.{behind, own_by}
use Rattle.xf_items.proofs.ItemLaws.{behind-end, own-none}
use Rattle.xf_items.proofs.items.push_element.Goals as goal

pub returns-in_default : goal.returns-in_default
returns-in_default c =
    let o = c.args.over.now in
    let form = o.form.now in
    let f = interface_of form in
    let a = around_over o in
    let s = seen_inside c.args.within.now in
    let n = c.args.element in
    let here = c.in-Some.here.now in
    ap (behind c.args.all.now)
    (ap (λ (e : Element). own_by f a s n e.sort) (this-element form n here c.in-Some.ensures) ∙ own-none f a s n here.kind c.in_default.not-Item c.in_default.not-Itemset)
    ∙ behind-end c.args.all.now

pub returns-in-None : goal.returns-in-None
returns-in-None c =
    let o = c.args.over.now in
    let form = o.form.now in
    let f = interface_of form in
    let a = around_over o in
    let s = seen_inside c.args.within.now in
    let n = c.args.element in
    ap (behind c.args.all.now) (ap (λ (e : Element). own_by f a s n e.sort) (no-element form n c.in-None.ensures)) ∙ behind-end c.args.all.now

use Rattle.std.proofs.Common.{sym, ap, ◌∙◌}
use Rattle.xf_def_ui.specs.Interface.{Element}
use Rattle.xf_form_elements.proofs.ElementLemmas.{no-element, this-element}
use Rattle.xf_form_elements.specs.Switch.Among.{own_switch}
use Rattle.xf_form_elements.proofs.switch.selected.switch_at.Goals as goal

pub returns-in-None : goal.returns-in-None
returns-in-None c = sym (ap (λ (e : Element). own_switch e.sort) (no-element c.args.form.now c.args.element c.in-None.ensures))

pub returns-in-Some : goal.returns-in-Some
returns-in-Some c = c.own_switch.ensures ∙ sym (ap (λ (e : Element). own_switch e.sort) (this-element c.args.form.now c.args.element c.in-Some.here.now c.in-Some.ensures))

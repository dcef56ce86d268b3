use Rattle.std.proofs.Common.{sym, ap}
use Rattle.xf_def_ui.specs.Interface.{Element}
use Rattle.xf_form_elements.proofs.ElementLemmas.{no-element, this-element}
use Rattle.xf_form_elements.proofs.element.parent_of.Goals as goal

pub returns-in-None : goal.returns-in-None
returns-in-None c = sym (ap (λ (e : Element). e.parent) (no-element c.args.form.now c.args.element c.in-None.ensures))

pub returns-in-Some : goal.returns-in-Some
returns-in-Some c = sym (ap (λ (e : Element). e.parent) (this-element c.args.form.now c.args.element c.in-Some.here.now c.in-Some.ensures))

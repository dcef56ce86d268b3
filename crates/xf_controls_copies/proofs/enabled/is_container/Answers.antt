use Rattle.std.proofs.Common.{sym, ap}
use Rattle.xf_def_ui.specs.Elements.{is_container}
use Rattle.xf_def_ui.specs.Interface.{Element}
use Rattle.xf_form_elements.proofs.ElementLemmas.{no-element}
use Rattle.xf_controls_copies.proofs.enabled.is_container.Goals as goal

pub returns-in-None : goal.returns-in-None
returns-in-None c = sym (ap (λ (e : Element). is_container e.sort) (no-element c.args.form.now c.args.element c.in-None.ensures))

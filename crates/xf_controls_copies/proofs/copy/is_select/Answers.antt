use Rattle.std.proofs.Common.{sym, ap}
use Rattle.xf_def_ui.specs.Interface.{Element}
use Rattle.xf_form_elements.proofs.ElementLemmas.{no-element}
use Rattle.xf_controls_copies.specs.Made.{is_select}
use Rattle.xf_controls_copies.proofs.copy.is_select.Goals as goal

pub returns-in-None : goal.returns-in-None
returns-in-None c = sym (ap (λ (e : Element). is_select e.sort) (no-element c.args.form.now c.args.element c.in-None.ensures))

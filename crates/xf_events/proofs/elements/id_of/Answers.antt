use Rattle.std.proofs.Common.{sym, ap}
use Rattle.xf_def_ui.specs.Interface.{Element}
use Rattle.xf_form_elements.proofs.ElementLemmas.{no-element}
use Rattle.xf_events.proofs.elements.id_of.Goals as goal

pub returns-in-None : goal.returns-in-None
returns-in-None c = sym (ap (λ (e : Element). e.id) (no-element c.args.form.now c.args.element c.in-None.ensures))

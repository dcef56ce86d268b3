use Rattle.std.proofs.Common.{sym, ap}
use Rattle.xf_def_ui.specs.Copies.{own_binding}
use Rattle.xf_def_ui.specs.Interface.{Element}
use Rattle.xf_form_elements.proofs.ElementLemmas.{no-element}
use Rattle.xf_controls_copies.proofs.copy.own_binding.Goals as goal

pub returns-in-None : goal.returns-in-None
returns-in-None c = sym (ap (λ (e : Element). own_binding e e.sort) (no-element c.args.form.now c.args.element c.in-None.ensures))

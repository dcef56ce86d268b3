use Rattle.std.proofs.Common.{sym, ap}
use Rattle.xf_def_ui.specs.Interface.{Element}
use Rattle.xf_def_machine.specs.ControlText.{has_line}
use Rattle.xf_form_elements.proofs.ElementLemmas.{no-element}
use Rattle.xf_report_state.proofs.copies.has_line.Goals as goal

pub returns-in-None : goal.returns-in-None
returns-in-None c = sym (ap (λ (e : Element). has_line e.sort) (no-element c.args.form.now c.args.element c.in-None.ensures))

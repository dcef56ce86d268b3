use Rattle.std.proofs.Common.{sym, ap, ◌∙◌}
use Rattle.xf_def_ui.specs.Cases.{is_written_selected}
use Rattle.xf_def_ui.specs.Interface.{Element}
use Rattle.xf_form_elements.proofs.ElementLemmas.{no-element, this-element}
use Rattle.xf_form_elements.proofs.switch.first.is_written_selected.Goals as goal

pub returns-in-None : goal.returns-in-None
returns-in-None c = sym (ap (λ (e : Element). is_written_selected e.sort) (no-element c.args.form.now c.args.case c.in-None.ensures))

pub returns-in-Some : goal.returns-in-Some
returns-in-Some c = c.is_selected.ensures ∙ sym (ap (λ (e : Element). is_written_selected e.sort) (this-element c.args.form.now c.args.case c.in-Some.here.now c.in-Some.ensures))

use Rattle.std.proofs.Common.{sym, ap, ◌∙◌}
use Rattle.xf_def_ui.specs.Cases.{is_case_sort}
use Rattle.xf_def_ui.specs.Interface.{Element}
use Rattle.xf_form_elements.proofs.ElementLemmas.{no-element, this-element}
use Rattle.xf_form_elements.proofs.switch.cases.is_case_at.Goals as goal

pub returns-in-None : goal.returns-in-None
returns-in-None c = sym (ap (λ (e : Element). is_case_sort e.sort) (no-element c.args.form.now c.args.element c.in-None.ensures))

pub returns-in-Some : goal.returns-in-Some
returns-in-Some c = c.is_case.ensures ∙ sym (ap (λ (e : Element). is_case_sort e.sort) (this-element c.args.form.now c.args.element c.in-Some.here.now c.in-Some.ensures))

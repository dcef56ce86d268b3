use Rattle.std.proofs.Common.{◌∙◌, ap, sym}
use Rattle.xf_def_ui.specs.Interface.{Element}
use Rattle.xf_form_elements.specs.Around.{is_of}
use Rattle.xf_form_elements.proofs.AroundLemmas.{none-contained}
use Rattle.xf_form_elements.proofs.ElementLemmas.{no-element}
use Rattle.xf_form_elements.proofs.around.is_container.Goals as goal

pub returns-in-None : goal.returns-in-None
returns-in-None c = sym (ap (λ (e : Element). is_of c.args.sort e.sort) (no-element c.args.form.now c.args.element c.in-None.ensures) ∙ none-contained c.args.sort)

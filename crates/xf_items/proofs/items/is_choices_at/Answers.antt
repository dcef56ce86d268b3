use Rattle.std.proofs.Common.{sym, ap}
use Rattle.xf_def_ui.specs.Interface.{Element}
use Rattle.xf_form_elements.proofs.ElementLemmas.{no-element}
use Rattle.xf_items.specs.Items.{is_choices}
use Rattle.xf_items.proofs.items.is_choices_at.Goals as goal

pub returns-in-None : goal.returns-in-None
returns-in-None c = sym (ap (λ (e : Element). is_choices e.sort) (no-element c.args.form.now c.args.element c.in-None.ensures))

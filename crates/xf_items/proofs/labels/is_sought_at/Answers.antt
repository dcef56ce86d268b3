use Rattle.std.proofs.Common.{sym, ap, ◌∙◌}
use Rattle.xf_def_ui.specs.Interface.{Element}
use Rattle.xf_form_elements.proofs.ElementLemmas.{no-element}
use Rattle.xf_items.specs.Items.{is_sought}
use Rattle.xf_items.proofs.LabelLaws.{none-sought}
use Rattle.xf_items.proofs.labels.is_sought_at.Goals as goal

pub returns-in-None : goal.returns-in-None
returns-in-None c =
    sym (ap (λ (e : Element). is_sought c.args.sought e.sort) (no-element c.args.form.now c.args.element c.in-None.ensures) ∙ none-sought c.args.sought)

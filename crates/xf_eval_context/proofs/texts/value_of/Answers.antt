use Rattle.std.proofs.Common.{sym, ap}
use Rattle.xf_def_ui.specs.Interface.{Element}
use Rattle.xf_form_elements.proofs.ElementLemmas.{no-element}
use Rattle.xf_eval_context.specs.Texts.{value_in}
use Rattle.xf_eval_context.proofs.texts.value_of.Goals as goal

pub returns-in-None : goal.returns-in-None
returns-in-None c = sym (ap (λ (e : Element). value_in e.sort) (no-element c.args.over.now.form.now c.args.element c.in-None.ensures))

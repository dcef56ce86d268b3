use Rattle.std.proofs.Common.{sym, ap}
use Rattle.xf_def_ui.specs.Elements.{repeat_number}
use Rattle.xf_def_ui.specs.Interface.{Element}
use Rattle.xf_form_elements.proofs.ElementLemmas.{no-element}
use Rattle.xf_eval_context.proofs.indexes.number_of.Goals as goal

pub returns-in-None : goal.returns-in-None
returns-in-None c = sym (ap (λ (e : Element). repeat_number e.sort) (no-element c.args.form.now c.args.repeat c.in-None.ensures))

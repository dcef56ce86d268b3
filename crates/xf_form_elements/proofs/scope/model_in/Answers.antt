use Rattle.std.proofs.Common.{ap, sym}
use Rattle.xf_def_ui.specs.Context.{scope_of}
use Rattle.xf_def_ui.specs.Interface.{interface_of}
use Rattle.xf_form_elements.proofs.ElementLemmas.{no-element}
use Rattle.xf_form_elements.proofs.scope.model_in.Goals as goal

pub returns-in-None : goal.returns-in-None
returns-in-None c = sym (ap (scope_of (interface_of c.args.form.now) c.args.outer) (no-element c.args.form.now c.args.element c.in-None.ensures))

use Rattle.std.proofs.Common.{sym, ap}
use Rattle.xf_def_ui.specs.Context.{scope_of}
use Rattle.xf_def_ui.specs.Interface.{interface_of}
use Rattle.xf_form_elements.proofs.ElementLemmas.{no-element}
use Rattle.xf_eval_context.proofs.inside.model_in.Goals as goal

pub returns-in-None : goal.returns-in-None
returns-in-None c =
    let form = c.args.over.now.form.now in
    sym (ap (scope_of (interface_of form) c.args.outer) (no-element form c.args.element c.in-None.ensures))

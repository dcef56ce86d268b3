use Rattle.std.proofs.Common.{ap}
use Rattle.xf_def_ui.specs.Context.{enter}
use Rattle.xf_def_ui.specs.Interface.{interface_of}
use Rattle.xf_form_elements.proofs.ElementLemmas.{no-element}
use Rattle.xf_eval_context.specs.Inside.{seen_inside}
use Rattle.xf_eval_context.specs.Over.{around_over}
use Rattle.xf_eval_context.proofs.inside.enter.Goals as goal

pub returns-in-None : goal.returns-in-None
returns-in-None c =
    let o = c.args.over.now in
    ap (enter (interface_of o.form.now) (around_over o) (seen_inside c.args.outer.now)) (no-element o.form.now c.args.element c.in-None.ensures)

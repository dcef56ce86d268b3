use Rattle.std.proofs.Common.{sym, ap}
use Rattle.xf_def_syntax.specs.Ordered.{is_parent}
use Rattle.xf_def_ui.specs.Interface.{Element}
use Rattle.xf_controls.proofs.CodeLaws.{no-element}
use Rattle.xf_controls.proofs.element.has_parent.Goals as goal

pub returns-in-None : goal.returns-in-None
returns-in-None c = sym (ap (λ (e : Element). is_parent c.args.at e.parent) (no-element c.args.form.now c.args.child c.in-None.ensures))

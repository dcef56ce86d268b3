use Rattle.std.proofs.Common.{sym, ap}
use Rattle.xf_def_ui.specs.Interface.{Element}
use Rattle.xf_controls.specs.Plain.{is_top}
use Rattle.xf_controls.proofs.CodeLaws.{no-element}
use Rattle.xf_controls.proofs.element.is_first_alone.Goals as goal

pub returns-in-None : goal.returns-in-None
returns-in-None c = sym (ap (λ (e : Element). is_top e.parent) (no-element c.args.form.now 0 c.in-None.ensures))

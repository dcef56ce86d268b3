use Rattle.std.proofs.Common.{ap, sym}
use Rattle.xf_def_ui.specs.Interface.{Element}
use Rattle.xf_report.specs.Controls.{many_in}
use Rattle.xf_report.proofs.NamedLemmas.{element-lost}
use Rattle.xf_report.proofs.control.many_of.Goals as goal

pub returns-in-None : goal.returns-in-None
returns-in-None c = sym (ap (λ (e : Element). many_in e.sort) (element-lost c.args.form.now c.args.element c.in-None.ensures))

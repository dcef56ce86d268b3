use Rattle.std.proofs.Common.{ap, sym}
use Rattle.xf_def_ui.specs.Interface.{Element}
use Rattle.xf_report.proofs.NamedLemmas.{element-lost}
use Rattle.xf_report.proofs.names.id_of.Goals as goal

pub returns-in-None : goal.returns-in-None
returns-in-None c = sym (ap (λ (e : Element). e.id) (element-lost c.args.form.now c.args.element c.in-None.ensures))

use Rattle.xf_law_machine.proofs.BesideLemmas.Going.{leaves_beside}
use Rattle.xf_law_machine.proofs.beside.changes_leave_beside.Goals as goal

pub returns : goal.returns
returns c = leaves_beside

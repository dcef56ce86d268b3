use Rattle.xf_law_machine.proofs.BesideLemmas.ChangesGo.{changes_go_beside}
use Rattle.xf_law_machine.proofs.beside.changes_go_beside.Goals as goal

pub returns : goal.returns
returns c = changes_go_beside

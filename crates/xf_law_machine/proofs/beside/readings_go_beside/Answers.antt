use Rattle.xf_law_machine.proofs.BesideLemmas.ReadingsGo.{readings_go_beside}
use Rattle.xf_law_machine.proofs.beside.readings_go_beside.Goals as goal

pub returns : goal.returns
returns c = readings_go_beside

use Rattle.xf_law_sessions.proofs.ShownLemmas.Placed.{placed_law}
use Rattle.xf_law_sessions.proofs.ShownLemmas.State.{shown_law}
use Rattle.xf_law_sessions.proofs.shown.shown_of_instances.Goals as goal

pub returns-clause-shown : goal.returns-clause-shown
returns-clause-shown c = shown_law

pub returns-clause-placed : goal.returns-clause-placed
returns-clause-placed c = placed_law

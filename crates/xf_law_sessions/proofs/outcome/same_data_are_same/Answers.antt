use Rattle.xf_law_sessions.proofs.OutcomeLemmas.Same.{data_laws}
use Rattle.xf_law_sessions.proofs.outcome.same_data_are_same.Goals as goal

pub returns : goal.returns
returns c = data_laws

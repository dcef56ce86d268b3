use Rattle.xf_law_sessions.proofs.OutcomeLemmas.Indexes.{indexes_fixed}
use Rattle.xf_law_sessions.proofs.outcome.indexes_are_fixed.Goals as goal

pub returns : goal.returns
returns c = indexes_fixed

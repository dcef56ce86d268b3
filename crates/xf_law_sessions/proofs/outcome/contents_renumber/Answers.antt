use Rattle.xf_law_sessions.proofs.OutcomeLemmas.Numbers.{contents_renumber}
use Rattle.xf_law_sessions.proofs.outcome.contents_renumber.Goals as goal

pub returns : goal.returns
returns c = contents_renumber

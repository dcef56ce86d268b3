use Rattle.xf_law_sessions.proofs.OutcomeLemmas.Contents.{trees_tell}
use Rattle.xf_law_sessions.proofs.outcome.trees_tell_contents.Goals as goal

pub returns : goal.returns
returns c = trees_tell

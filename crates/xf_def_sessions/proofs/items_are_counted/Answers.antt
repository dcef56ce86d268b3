use Rattle.xf_def_sessions.proofs.Counted.{runs_count}
use Rattle.xf_def_sessions.proofs.items_are_counted.Goals as goal

pub returns : goal.returns
returns c = runs_count

use Rattle.xf_def_sessions.proofs.LeftLaws.{left_laws}
use Rattle.xf_def_sessions.proofs.written_journals_stand.Goals as goal

pub returns : goal.returns
returns c = left_laws

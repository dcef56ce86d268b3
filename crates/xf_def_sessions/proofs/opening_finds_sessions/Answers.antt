use Rattle.xf_def_sessions.proofs.FindingLaws.{finding_laws}
use Rattle.xf_def_sessions.proofs.opening_finds_sessions.Goals as goal

pub returns : goal.returns
returns c = finding_laws

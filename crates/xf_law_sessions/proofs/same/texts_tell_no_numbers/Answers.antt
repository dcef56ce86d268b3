use Rattle.xf_law_sessions.proofs.SameLemmas.TextsGo.{texts_go}
use Rattle.xf_law_sessions.proofs.same.texts_tell_no_numbers.Goals as goal

pub returns : goal.returns
returns c = texts_go

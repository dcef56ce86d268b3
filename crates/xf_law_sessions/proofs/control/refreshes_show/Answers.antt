use Rattle.xf_law_sessions.proofs.ControlLemmas.Seen.{refresh_shows}
use Rattle.xf_law_sessions.proofs.control.refreshes_show.Goals as goal

pub returns : goal.returns
returns c = refresh_shows

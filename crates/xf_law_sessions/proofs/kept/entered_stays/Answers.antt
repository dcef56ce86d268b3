use Rattle.xf_law_sessions.proofs.KeptLemmas.Entered.{entered_elsewhere, entered_shaped}
use Rattle.xf_law_sessions.proofs.kept.entered_stays.Goals as goal

pub returns-clause-elsewhere : goal.returns-clause-elsewhere
returns-clause-elsewhere c = entered_elsewhere

pub returns-clause-shaped : goal.returns-clause-shaped
returns-clause-shaped c = entered_shaped

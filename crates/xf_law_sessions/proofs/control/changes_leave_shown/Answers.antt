use Rattle.xf_law_sessions.proofs.ControlLemmas.Changes.{data_leave, refresh_due_leaves}
use Rattle.xf_law_sessions.proofs.ControlLemmas.Seen.{leaves_shown, leaves_further}
use Rattle.xf_law_sessions.proofs.control.changes_leave_shown.Goals as goal

pub returns-clause-shown : goal.returns-clause-shown
returns-clause-shown c = leaves_shown

pub returns-clause-further : goal.returns-clause-further
returns-clause-further c = leaves_further

pub returns-clause-each : goal.returns-clause-each
returns-clause-each c = data_leave

pub returns-clause-due : goal.returns-clause-due
returns-clause-due c = refresh_due_leaves

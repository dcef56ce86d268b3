use Rattle.xf_actions.proofs.Flow.{makes-stopped, refuses-any}
use Rattle.xf_actions.proofs.choose.toggled.Goals as goal

pub returns-in_err-events-clause-done : goal.returns-in_err-events-clause-done
returns-in_err-events-clause-done g c = makes-stopped _ _ _ _ _ _ c.from_residual.ensures.1 (refuses-any _ _ _ _ c.in_err-events.ensures)

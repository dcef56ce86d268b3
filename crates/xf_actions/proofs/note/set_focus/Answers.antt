use Rattle.xf_actions.proofs.Flow.{stopped, refuses-any}
use Rattle.xf_actions.proofs.note.set_focus.Goals as goal

pub returns-in_err-named_copy-clause-done : goal.returns-in_err-named_copy-clause-done
returns-in_err-named_copy-clause-done g c = stopped _ _ _ _ _ c.from_residual.ensures.1 (refuses-any _ _ _ _ c.in_err-named_copy.ensures)

pub returns-in_err-id-in-Some-clause-done : goal.returns-in_err-id-in-Some-clause-done
returns-in_err-id-in-Some-clause-done g c =
    stopped _ _ _ _ _ c.from_residual-in_err-id-in-Some.ensures.1 (refuses-any _ _ _ _ c.in_err-id-in-Some.ensures)

use Rattle.xf_actions.proofs.Flow.{stopped, refuses-any}
use Rattle.xf_actions.proofs.insert.put_copy.Goals as goal

pub returns-in_err-detach_some-clause-done : goal.returns-in_err-detach_some-clause-done
returns-in_err-detach_some-clause-done g c = stopped _ _ _ _ _ c.from_residual.ensures.1 (refuses-any _ _ _ _ c.in_err-detach_some.ensures.done)

pub returns-in_err-detach_some-2-clause-done : goal.returns-in_err-detach_some-2-clause-done
returns-in_err-detach_some-2-clause-done g c =
    stopped _ _ _ _ _ c.from_residual-in_err-detach_some-2.ensures.1 (refuses-any _ _ _ _ c.in_err-detach_some-2.ensures.done)

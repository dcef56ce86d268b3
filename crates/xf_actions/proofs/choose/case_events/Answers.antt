use Rattle.xf_actions.proofs.Flow.{reads-stopped, refuses-any}
use Rattle.xf_actions.proofs.choose.case_events.Goals as goal

pub returns-in_err-deselect : goal.returns-in_err-deselect
returns-in_err-deselect g c = reads-stopped _ _ (g.W.World.state c.args.world.now) _ _ _ c.from_residual.ensures.1 (refuses-any _ _ _ _ c.in_err-deselect.ensures)

pub returns-in_err-select : goal.returns-in_err-select
returns-in_err-select g c = reads-stopped _ _ (g.W.World.state c.args.world.now) _ _ _ c.from_residual-in_err-select.ensures.1 (refuses-any _ _ _ _ c.in_err-select.ensures)

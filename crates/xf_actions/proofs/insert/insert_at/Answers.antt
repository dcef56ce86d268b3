use Rattle.xf_def_machine.specs.Acting.{act_at}
use Rattle.xf_actions.specs.Seen.{acting_of, focus_of}
use Rattle.xf_actions.specs.Parts.{insert_in}
use Rattle.xf_actions.proofs.Flow.{makes-stopped}
use Rattle.xf_actions.proofs.Trees.{insert_at-stops}
use Rattle.xf_actions.proofs.insert.insert_at.Goals as goal

pub returns-in_err-inserting-clause-done : goal.returns-in_err-inserting-clause-done
returns-in_err-inserting-clause-done g c =
    makes-stopped _ _ _ _ _ _ c.from_residual.ensures.1 (insert_at-stops g.W.World.profile (acting_of c.args.fired.now c.args.acting.now) (insert_in (act_at (g.W.World.state c.args.world.now) c.args.acting.now.element)) (focus_of c.args.focus.now) (g.W.World.state c.args.world.now) _ _ c.in_err-inserting.ensures)

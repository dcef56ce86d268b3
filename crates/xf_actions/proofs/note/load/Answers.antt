use Rattle.xf_def_machine.specs.Acting.{act_at}
use Rattle.xf_actions.specs.Seen.{acting_of}
use Rattle.xf_actions.specs.Parts.{resource_in}
use Rattle.xf_actions.proofs.Flow.{stopped}
use Rattle.xf_actions.proofs.WorkKinds.{load-stops}
use Rattle.xf_actions.proofs.note.load.Goals as goal

pub returns-in_err-text-clause-done : goal.returns-in_err-text-clause-done
returns-in_err-text-clause-done g c =
    stopped _ _ _ _ _ c.from_residual.ensures.1 (load-stops g.W.World.profile (acting_of c.args.fired.now c.args.acting.now) (resource_in (act_at (g.W.World.state c.args.world.now) c.args.acting.now.element)) (g.W.World.state c.args.world.now) _ _ c.in_err-text.ensures)

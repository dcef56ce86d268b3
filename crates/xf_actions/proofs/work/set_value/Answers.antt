use Rattle.xf_def_machine.specs.Acting.{act_at}
use Rattle.xf_actions.specs.Seen.{acting_of}
use Rattle.xf_actions.specs.Parts.{value_in}
use Rattle.xf_actions.proofs.Flow.{stopped}
use Rattle.xf_actions.proofs.Doings.{set_value-stops}
use Rattle.xf_actions.proofs.work.set_value.Goals as goal

pub returns-in_err-bound-clause-done : goal.returns-in_err-bound-clause-done
returns-in_err-bound-clause-done g c = stopped _ _ _ _ _ c.from_residual.ensures.1 (set_value-stops g.W.World.profile (acting_of c.args.fired.now c.args.acting.now) (value_in (act_at (g.W.World.state c.args.world.now) c.args.acting.now.element)) (g.W.World.state c.args.world.now) _ _ c.in_err-bound.ensures)

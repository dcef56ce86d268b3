use Rattle.std.proofs.Common.{codes, rules}
use Rattle.xf_def_machine.specs.Acting.{act_at}
use Rattle.xf_actions.specs.Parts.{work_in}
use Rattle.xf_actions.proofs.Flow.{same-reads}
use Rattle.xf_actions.proofs.WorkKinds.{model-tells}
use Rattle.xf_actions.proofs.tell.told_events.Goals as goal

pub returns-in-Rebuild : goal.returns-in-Rebuild
returns-in-Rebuild g c = same-reads _ _ (g.W.World.state c.args.world.now) _ _ _ (model-tells (codes "xforms-rebuild") c.args.acting.now.model (work_in (act_at (g.W.World.state c.args.world.now) c.args.acting.now.element)) (g.W.World.state c.args.world.now) (search rules)) c.on_model-in-Rebuild.ensures

pub returns-in-Recalculate : goal.returns-in-Recalculate
returns-in-Recalculate g c = same-reads _ _ (g.W.World.state c.args.world.now) _ _ _ (model-tells (codes "xforms-recalculate") c.args.acting.now.model (work_in (act_at (g.W.World.state c.args.world.now) c.args.acting.now.element)) (g.W.World.state c.args.world.now) (search rules)) c.on_model-in-Recalculate.ensures

pub returns-in-Revalidate : goal.returns-in-Revalidate
returns-in-Revalidate g c = same-reads _ _ (g.W.World.state c.args.world.now) _ _ _ (model-tells (codes "xforms-revalidate") c.args.acting.now.model (work_in (act_at (g.W.World.state c.args.world.now) c.args.acting.now.element)) (g.W.World.state c.args.world.now) (search rules)) c.on_model-in-Revalidate.ensures

use Rattle.std.proofs.Common.{rules}
use Rattle.xf_def_xpath.specs.Meaning.{meaning}
use Rattle.xf_def_machine.specs.Acting.{act_at}
use Rattle.xf_actions.specs.Seen.{acting_of}
use Rattle.xf_actions.specs.Parts.{index_in}
use Rattle.xf_actions.proofs.Flow.{reads-stopped}
use Rattle.xf_actions.proofs.WorkKinds.{asked-unread}
use Rattle.xf_actions.proofs.choose.index_asked.Goals as goal

pub returns-in_err-number-in-SetIndex : goal.returns-in_err-number-in-SetIndex
returns-in_err-number-in-SetIndex g c =
    reads-stopped _ _ (g.W.World.state c.args.world.now) _ _ _ c.from_residual.ensures.1
    (asked-unread g.W.World.profile (acting_of c.args.fired.now c.args.acting.now) (meaning c.in-SetIndex.expr) (index_in (act_at (g.W.World.state c.args.world.now) c.args.acting.now.element)) (g.W.World.state c.args.world.now) _ _ (search rules) c.in_err-number-in-SetIndex.ensures)

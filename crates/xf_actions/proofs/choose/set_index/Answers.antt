use Rattle.xf_def_machine.specs.Acting.{act_at}
use Rattle.xf_actions.specs.Seen.{acting_of}
use Rattle.xf_actions.specs.Parts.{index_in}
use Rattle.xf_actions.proofs.Flow.{stopped, refuses-any}
use Rattle.xf_actions.proofs.WorkKinds.{index-unread}
use Rattle.xf_actions.proofs.choose.set_index.Goals as goal

pub returns-in_err-named_copy-clause-done : goal.returns-in_err-named_copy-clause-done
returns-in_err-named_copy-clause-done g c = stopped _ _ _ _ _ c.from_residual.ensures.1 (refuses-any _ _ _ _ c.in_err-named_copy.ensures)

pub returns-in_err-index_asked-in-Some-clause-done : goal.returns-in_err-index_asked-in-Some-clause-done
returns-in_err-index_asked-in-Some-clause-done g c =
    stopped _ _ _ _ _ c.from_residual-in_err-index_asked-in-Some.ensures.1
    (index-unread g.W.World.profile (acting_of c.args.fired.now c.args.acting.now) c.args.repeat c.repeat_element-element.result (index_in (act_at (g.W.World.state c.args.world.now) c.args.acting.now.element)) (g.W.World.state c.args.world.now) c.in_ok-named_copy.field-0 _ _ _ c.repeat_element-element.ensures c.in_ok-named_copy.ensures c.in-Some.is
    c.in_err-index_asked-in-Some.ensures)

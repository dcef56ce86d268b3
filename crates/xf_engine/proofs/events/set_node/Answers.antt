use Rattle.std.proofs.Common.{subst}
use Rattle.xf_def_machine.specs.Profile.{Profile}
use Rattle.xf_actions.specs.Fault.{means}
use Rattle.xf_actions.specs.Performs.{Runs}
use Rattle.xf_def_forest.specs.Shape.{has_elements}
use Rattle.xf_def_machine.specs.Primitives.{set_text}
use Rattle.xf_def_machine.specs.Surround.{all_in}
use Rattle.xf_def_form.specs.Formed.{profile}
use Rattle.xf_actions.proofs.Flow.{same-runs, stopped}
use Rattle.xf_engine.proofs.EventLaws.{parent-allows, parent-refuses}
use Rattle.xf_engine.proofs.events.set_node.Goals as goal

pub returns-in_err-may_set-clause-done : goal.returns-in_err-may_set-clause-done
returns-in_err-may_set-clause-done g c =
    let s = g.W.World.state c.args.world.now in
    let n = c.args.node.number in
    stopped _ _ _ _ _ c.from_residual.ensures.1 (parent-refuses (has_elements (all_in s) n) n (set_text profile n c.args.text.now) s _ _ c.in_err-may_set.ensures)

pub returns-clause-done : goal.returns-clause-done
returns-clause-done g c =
    let s = g.W.World.state c.args.world.now in
    let n = c.args.node.number in
    same-runs _ _ _ _ _ (parent-allows (has_elements (all_in s) n) n (set_text profile n c.args.text.now) s c.in_ok-may_set.ensures)
    (subst (λ (p : Profile). Runs means (g.W.World.state c.set_text.new.self) c.set_text.result (set_text p n c.args.text.now s)) g.met.W.Machine.is_given c.set_text.ensures.done)

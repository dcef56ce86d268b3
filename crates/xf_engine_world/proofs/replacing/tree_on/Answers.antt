use Rattle.std.proofs.Common.{Option, option_map, sym, ap, ◌∙◌}
use Rattle.xf_def_forest.specs.declared.node.NodeId.{NodeId}
use Rattle.xf_def_machine.specs.Submit.{takes_tree}
use Rattle.xf_actions.specs.Sent.{on_target, put_tree}
use Rattle.xf_actions.proofs.Flow.{leaves-stopped, same-refuses}
use Rattle.xf_def_form.specs.Formed.{profile}
use Rattle.xf_engine_world.specs.State.{state_of}
use Rattle.xf_engine_world.proofs.SubmitLaws.{taken-refused}
use Rattle.xf_engine_world.proofs.replacing.tree_on.Goals as goal

pub returns-in_err-events-clause-done : goal.returns-in_err-events-clause-done
returns-in_err-events-clause-done c =
    let s = state_of c.args.world.now in
    let put = put_tree profile c.args.lit.now in
    leaves-stopped _ _ (state_of c.put_tree.new.world) _ _ _ c.from_residual.ensures.1
    (same-refuses _ _ _ _ (ap (λ (o : Option NodeId). on_target takes_tree put (option_map (λ n. n.number) o) s) c.in-Some.is)
    (taken-refused takes_tree put c.in-Some.node.number s _ _ (sym c.may_take_tree.ensures ∙ c.if-not-may_take_tree.false) c.in_err-events.ensures.done))

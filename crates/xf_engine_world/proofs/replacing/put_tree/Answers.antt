use Rattle.std.proofs.Common.{sym, ap, ◌∙◌}
use Rattle.xf_def_machine.specs.Update.{reindex}
use Rattle.xf_actions.proofs.Flow.{makes-stopped, same-refuses}
use Rattle.xf_actions.proofs.Rounds.{same-makes}
use Rattle.xf_def_form.specs.Formed.{profile}
use Rattle.xf_engine_world.specs.State.{state_of}
use Rattle.xf_engine_world.proofs.SubmitLaws.{tree-behaved, tree-unindexed}
use Rattle.xf_engine_world.proofs.replacing.put_tree.Goals as goal

pub returns-in_err-reindex-clause-done : goal.returns-in_err-reindex-clause-done
returns-in_err-reindex-clause-done c =
    let t = state_of c.replace.new.world in
    makes-stopped _ _ (state_of c.reindex.new.world) _ _ _ c.from_residual-in_err-reindex.ensures.1
    (tree-unindexed c.args.lit.now c.args.node.number (state_of c.args.world.now) t _ _ c.in_ok-replace.ensures.done
    (same-refuses _ _ _ _ (ap (λ added. reindex profile added t) (sym c.new-none.ensures)) c.in_err-reindex.ensures.done))

pub returns-clause-done : goal.returns-clause-done
returns-clause-done c =
    let t = state_of c.replace.new.world in
    same-makes _ _ (state_of c.behave_in.new.world) c.behave_in.result _ _
    (tree-behaved c.args.lit.now c.args.node.number (state_of c.args.world.now) t (state_of c.reindex.new.world) c.model_of-model.result
    c.in_ok-replace.ensures.done (ap (λ added. reindex profile added t) (sym c.new-none.ensures) ∙ c.in_ok-reindex.ensures.done) c.model_of-model.ensures)
    c.behave_in.ensures.done

use Rattle.xf_def_forest.specs.declared.node.NodeId.{NodeId}
use Rattle.xf_def_machine.specs.Primitives.{copy}
use Rattle.xf_law_machine.proofs.BesideLemmas.ChangesGo.{changes_go_beside}
use Rattle.xf_def_form.specs.Formed.{profile}
use Rattle.xf_engine_world.proofs.Besides.{beside_in, makes-told}
use Rattle.xf_engine_world.proofs.trees.copy.Goals as goal

pub returns-clause-done : goal.returns-clause-done
returns-clause-done c =
    let w = c.args.world.now in
    let n = c.args.node.number in
    makes-told (beside_in w) (λ (m : NodeId). m.number) (copy profile n) ((changes_go_beside profile).copy n) w.work.now
    c.copy-done.new.self.now c.copy-done.result c.as_event.result c.copy-done.ensures.done c.as_event.ensures

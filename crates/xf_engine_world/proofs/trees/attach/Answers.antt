use Rattle.std.proofs.Common.{subst}
use Rattle.xf_def_machine.specs.Primitives.{attach}
use Rattle.xf_law_machine.proofs.BesideLemmas.ChangesGo.{changes_go_beside}
use Rattle.xf_def_form.specs.Formed.{profile}
use Rattle.xf_engine_state.specs.Does.{Does}
use Rattle.xf_engine_state.specs.Standing.{state_of}
use Rattle.xf_engine_world.proofs.Besides.{beside_in, runs-told}
use Rattle.xf_engine_world.proofs.trees.attach.Goals as goal

pub returns-clause-done : goal.returns-clause-done
returns-clause-done c =
    let w = c.args.world.now in
    let n = c.args.node.number in
    let parent = c.args.parent.number in
    let place = c.args.place in
    runs-told (beside_in w) (attach profile n parent place) ((changes_go_beside profile).attach n parent place) w.work.now
    c.attach-done.new.self.now c.attach-done.result c.as_event.result
    (subst (λ k. Does c.attach-done.result c.attach-done.new.self.now (attach profile n parent k (state_of w.work.now))) c.in-Ok.ensures.1 c.attach-done.ensures.done)
    c.as_event.ensures

use Rattle.xf_def_machine.specs.Choose.{set_index}
use Rattle.xf_law_machine.proofs.BesideLemmas.ChangesGo.{changes_go_beside}
use Rattle.xf_def_form.specs.Formed.{profile}
use Rattle.xf_engine_world.proofs.Besides.{beside_in, runs-told}
use Rattle.xf_engine_world.proofs.choosing.set_index.Goals as goal

pub returns-clause-done : goal.returns-clause-done
returns-clause-done c =
    let w = c.args.world.now in
    let model = c.args.model in
    let repeat = c.args.repeat in
    let index = c.args.index in
    runs-told (beside_in w) (set_index profile model repeat index) ((changes_go_beside profile).set_index model repeat index) w.work.now
    c.set_index-done.new.self.now c.set_index-done.result c.as_event.result c.set_index-done.ensures.done c.as_event.ensures

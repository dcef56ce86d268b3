use Rattle.xf_def_machine.specs.Behave as behave
use Rattle.xf_law_machine.proofs.BesideLemmas.ChangesGo.{changes_go_beside}
use Rattle.xf_def_form.specs.Formed.{profile}
use Rattle.xf_engine_world.proofs.Besides.{beside_in, runs-told}
use Rattle.xf_engine_world.proofs.behaviours.rebuild.Goals as goal

pub returns-clause-done : goal.returns-clause-done
returns-clause-done c =
    let w = c.args.world.now in
    runs-told (beside_in w) (behave.rebuild profile c.args.model) ((changes_go_beside profile).rebuild c.args.model) w.work.now c.rebuild-done.new.self.now c.rebuild-done.result c.as_event.result c.rebuild-done.ensures.done c.as_event.ensures

use Rattle.xf_def_machine.specs.Primitives.{set_text}
use Rattle.xf_law_machine.proofs.BesideLemmas.ChangesGo.{changes_go_beside}
use Rattle.xf_def_form.specs.Formed.{profile}
use Rattle.xf_engine_world.proofs.Besides.{beside_in, runs-told}
use Rattle.xf_engine_world.proofs.behaviours.set_text.Goals as goal

pub returns-clause-done : goal.returns-clause-done
returns-clause-done c =
    let w = c.args.world.now in
    let n = c.args.node.number in
    let text = c.args.text.now in
    runs-told (beside_in w) (set_text profile n text) ((changes_go_beside profile).set_text n text) w.work.now
    c.set_text-done.new.self.now c.set_text-done.result c.as_event.result c.set_text-done.ensures.done c.as_event.ensures

use Rattle.xf_actions.specs.Texts.{settable}
use Rattle.xf_law_machine.proofs.BesideLemmas.ChangesGo.{changes_go_beside}
use Rattle.xf_def_form.specs.Formed.{profile}
use Rattle.xf_engine_world.proofs.Besides.{beside_in, reads-told}
use Rattle.xf_engine_world.proofs.behaviours.may_set.Goals as goal

pub returns : goal.returns
returns c =
    let w = c.args.world.now in
    let n = c.args.node.number in
    reads-told (beside_in w) (settable n) ((changes_go_beside profile).settable n) w.work.now c.may_set.result c.as_event.result c.may_set.ensures c.as_event.ensures

use Rattle.xf_def_forest.specs.Plant.{contents_of}
use Rattle.xf_def_machine.specs.Construct.{replace}
use Rattle.xf_law_machine.proofs.BesideLemmas.ChangesGo.{changes_go_beside}
use Rattle.xf_def_form.specs.Formed.{profile}
use Rattle.xf_engine_state.specs.Standing.{state_of}
use Rattle.xf_engine_world.proofs.Besides.{beside_in, runs-told}
use Rattle.xf_engine_world.proofs.replacing.replace.Goals as goal

pub returns-clause-done : goal.returns-clause-done
returns-clause-done c =
    let w = c.args.world.now in
    let contents = contents_of (state_of w.work.now).form.bindings c.args.lit.now 0 0 in
    runs-told (beside_in w) (replace profile c.args.node.number contents) ((changes_go_beside profile).replace c.args.node.number contents) w.work.now
    c.replace-done.new.self.now c.replace-done.result c.as_event.result c.replace-done.ensures.done c.as_event.ensures

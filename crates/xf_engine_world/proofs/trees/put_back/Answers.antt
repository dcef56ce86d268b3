use Rattle.xf_def_machine.specs.Construct.{construct, put_back}
use Rattle.xf_law_machine.proofs.BesideLemmas.ChangesGo.{changes_go_beside}
use Rattle.xf_def_form.specs.Formed.{profile}
use Rattle.xf_engine_state.specs.Standing.{state_of}
use Rattle.xf_engine_world.proofs.Besides.{beside_in, runs-told}
use Rattle.xf_engine_world.proofs.trees.put_back.Goals as goal

pub returns-clause-done : goal.returns-clause-done
returns-clause-done c =
    let w = c.args.world.now in
    let first = construct profile (state_of w.work.now).form in
    runs-told (beside_in w) (put_back profile first c.args.instance) ((changes_go_beside profile).put_back first c.args.instance) w.work.now
    c.put_back-done.new.self.now c.put_back-done.result c.as_event.result c.put_back-done.ensures.done c.as_event.ensures

use Rattle.xf_def_machine.specs.Update.{reindex}
use Rattle.xf_law_machine.proofs.BesideLemmas.ChangesGo.{changes_go_beside}
use Rattle.xf_def_form.specs.Formed.{profile}
use Rattle.xf_engine_world.proofs.Besides.{beside_in, runs-told}
use Rattle.xf_engine_world.proofs.choosing.reindex.Goals as goal

pub returns-clause-done : goal.returns-clause-done
returns-clause-done c =
    let w = c.args.world.now in
    let added = c.args.added.now in
    runs-told (beside_in w) (reindex profile added) ((changes_go_beside profile).reindex added) w.work.now
    c.reindex-done.new.self.now c.reindex-done.result c.as_event.result c.reindex-done.ensures.done c.as_event.ensures

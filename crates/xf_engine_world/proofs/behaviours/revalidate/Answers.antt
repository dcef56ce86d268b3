use Rattle.std.proofs.Common.{Ok, ap}
use Rattle.xf_def_machine.specs.Behave as behave
use Rattle.xf_law_machine.proofs.BesideLemmas.ChangesGo.{changes_go_beside}
use Rattle.xf_def_form.specs.Formed.{profile}
use Rattle.xf_engine_world.proofs.Besides.{beside_in, runs-told}
use Rattle.xf_engine_world.proofs.behaviours.revalidate.Goals as goal

pub returns-clause-done : goal.returns-clause-done
returns-clause-done c =
    let w = c.args.world.now in
    runs-told (beside_in w) (λ s. Ok (behave.revalidate profile c.args.model s)) (λ b s. ap (λ t. Ok t) ((changes_go_beside profile).revalidate c.args.model b s)) w.work.now
    c.revalidate-done.new.self.now c.revalidate-done.result c.as_event.result c.revalidate-done.ensures.done c.as_event.ensures

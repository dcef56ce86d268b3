use Rattle.std.proofs.Common.{Ok, ap}
use Rattle.xf_def_machine.specs.Primitives.{detach}
use Rattle.xf_law_machine.proofs.BesideLemmas.ChangesGo.{changes_go_beside}
use Rattle.xf_def_form.specs.Formed.{profile}
use Rattle.xf_engine_world.proofs.Besides.{beside_in, runs-told}
use Rattle.xf_engine_world.proofs.trees.detach.Goals as goal

pub returns-clause-done : goal.returns-clause-done
returns-clause-done c =
    let w = c.args.world.now in
    let n = c.args.node.number in
    runs-told (beside_in w) (λ s. Ok (detach n s)) (λ b s. ap (λ t. Ok t) ((changes_go_beside profile).detach n b s)) w.work.now
    c.detach-done.new.self.now c.detach-done.result c.as_event.result c.detach-done.ensures.done c.as_event.ensures

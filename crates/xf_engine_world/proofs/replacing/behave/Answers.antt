use Rattle.xf_actions.proofs.Rounds.{same-makes}
use Rattle.xf_engine_world.specs.State.{state_of}
use Rattle.xf_engine_world.proofs.SubmitLaws.{behaved-last}
use Rattle.xf_engine_world.proofs.replacing.behave.Goals as goal

pub returns-clause-done : goal.returns-clause-done
returns-clause-done c =
    same-makes _ _ (state_of c.refresh.new.world) c.refresh.result _ _
    (behaved-last c.args.model (state_of c.args.world.now) (state_of c.rebuild.new.world) (state_of c.recalculate.new.world) (state_of c.revalidate.new.world)
    c.in_ok-rebuild.ensures.done c.in_ok-recalculate.ensures.done c.in_ok-revalidate.ensures.done)
    c.refresh.ensures.done

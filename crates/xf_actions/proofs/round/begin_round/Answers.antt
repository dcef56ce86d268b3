use Rattle.xf_actions.proofs.Flow.{makes-stopped}
use Rattle.xf_actions.proofs.Rounds.{round-stops, round-behave_stops}
use Rattle.xf_actions.proofs.round.begin_round.Goals as goal

pub returns-in_err-spend-clause-done : goal.returns-in_err-spend-clause-done
returns-in_err-spend-clause-done g c =
    makes-stopped _ _ _ _ _ _ c.from_residual.ensures.1 (round-stops g.W.World.profile (g.W.World.state c.args.world.now) _ _ c.in_err-spend.ensures.done)

pub returns-in_err-behave_all-clause-done : goal.returns-in_err-behave_all-clause-done
returns-in_err-behave_all-clause-done g c =
    makes-stopped _ _ _ _ _ _ c.from_residual-in_err-behave_all.ensures.1
    (round-behave_stops g.W.World.profile (g.W.World.state c.args.world.now) (g.W.World.state c.spend.new.self) _ _ c.in_ok-spend.ensures.done
    c.in_err-behave_all.ensures.done)

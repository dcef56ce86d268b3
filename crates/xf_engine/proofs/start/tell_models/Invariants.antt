use Rattle.std.proofs.Common.{◌≡◌, ◌-◌, List}
use Rattle.xf_store.specs.declared.answers.Answer.{Answer}
use Rattle.xf_store.specs.Replay.{Covers}
use Rattle.xf_store.specs.Called.{Called}
use Rattle.xf_def_machine.specs.Flow.{in_turn}
use Rattle.xf_def_machine.specs.Cycles.{counted_from}
use Rattle.xf_def_machine.specs.Start.{tell_model, tell_models}
use Rattle.xf_def_form.specs.Formed.{profile}
use Rattle.xf_engine.proofs.start.tell_models.Given as goal

-- what is left of the models gives what all of them give, over all answers that cover the calls so far
abbrev pub invariant-loop-model : goal.invariant-loop-model
invariant-loop-model g l =
    record {
      rest : (answers : List Answer) → Covers answers (g.W.World.state l.world).calls
          → tell_models profile answers l.name (g.W.World.state l.initial.world) ≡ in_turn (tell_model profile answers l.name) (counted_from l.model (l.count - l.model)) (g.W.World.state l.world);
      store : Called (g.S.Store.calls l.initial.store, g.S.Store.to_come l.initial.store) (g.S.Store.calls l.store, g.S.Store.to_come l.store) (g.W.World.state l.initial.world).calls (g.W.World.state l.world).calls;
    }

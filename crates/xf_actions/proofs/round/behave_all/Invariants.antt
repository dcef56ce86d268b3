use Rattle.std.proofs.Common.{◌≡◌, ◌-◌}
use Rattle.xf_def_machine.specs.Flow.{in_turn}
use Rattle.xf_def_machine.specs.Cycles.{counted_from}
use Rattle.xf_def_machine.specs.Update.{due_revalidation}
use Rattle.xf_actions.specs.Told.{all_behaved}
use Rattle.xf_actions.proofs.round.behave_all.Given as goal

-- what is left of the models gives what all of them give
abbrev pub invariant-loop-model : goal.invariant-loop-model
invariant-loop-model g l = record {
  rest : all_behaved g.W.World.profile (g.W.World.state l.initial.world)
      ≡ in_turn (due_revalidation g.W.World.profile) (counted_from l.model (l.count - l.model)) (g.W.World.state l.world);
  kept : g.W.World.kept l.world ≡ g.W.World.kept l.initial.world;
  form : (g.W.World.state l.world).form ≡ (g.W.World.state l.initial.world).form;
  calls : (g.W.World.state l.world).calls ≡ (g.W.World.state l.initial.world).calls;
}

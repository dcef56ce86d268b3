use Rattle.std.proofs.Common.{◌≡◌, drop}
use Rattle.xf_def_machine.specs.Flow.{in_turn}
use Rattle.xf_actions.proofs.Resets.{puts}
use Rattle.xf_actions.proofs.reset.put_all_back.Given as goal

abbrev pub invariant-loop-instance : goal.invariant-loop-instance
invariant-loop-instance g l =
    let run = puts g.W.World.profile (g.W.World.state l.initial.world).form in record {
      rest : in_turn run l.instances (g.W.World.state l.initial.world) ≡ in_turn run (drop l.instance-index l.instances) (g.W.World.state l.world);
      kept : g.W.World.kept l.world ≡ g.W.World.kept l.initial.world;
      form : (g.W.World.state l.world).form ≡ (g.W.World.state l.initial.world).form;
      calls : (g.W.World.state l.world).calls ≡ (g.W.World.state l.initial.world).calls;
    }

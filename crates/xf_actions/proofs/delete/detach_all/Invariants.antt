use Rattle.std.proofs.Common.{◌≡◌, map, drop}
use Rattle.xf_def_machine.specs.Flow.{in_turn}
use Rattle.xf_actions.specs.TreeChanges.{cut}
use Rattle.xf_actions.proofs.delete.detach_all.Given as goal

-- what is left of the nodes gives what all of them give
abbrev pub invariant-loop-node : goal.invariant-loop-node
invariant-loop-node g l = record {
  rest : in_turn cut (map (λ n. n.number) l.nodes) (g.W.World.state l.initial.world)
      ≡ in_turn cut (drop l.node-index (map (λ n. n.number) l.nodes)) (g.W.World.state l.world);
  kept : g.W.World.kept l.world ≡ g.W.World.kept l.initial.world;
  form : (g.W.World.state l.world).form ≡ (g.W.World.state l.initial.world).form;
  calls : (g.W.World.state l.world).calls ≡ (g.W.World.state l.initial.world).calls;
}

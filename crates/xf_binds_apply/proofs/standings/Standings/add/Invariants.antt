use Rattle.std.proofs.Common.{◌≡◌, ◌<◌, ◌^◌, ◌++◌, length, take}
use Rattle.xf_binds_apply.proofs.StandingLaws.{PartPlaced, numbers}
use Rattle.xf_binds_apply.proofs.standings.Standings.add.Given as goal

abbrev pub invariant-loop-node : goal.invariant-loop-node
invariant-loop-node l = record {
  position : l.position ≡ l.node-index;
  size : l.size ≡ length (numbers l.node-items);
  within : length l.node-items < 2 ^ 32;
  nodes : l.self.nodes ≡ l.fn.self.nodes ++ numbers (take l.node-index l.node-items);
  places : PartPlaced l.fn.self.places l.self.places (numbers l.node-items) (numbers (take l.node-index l.node-items));
}

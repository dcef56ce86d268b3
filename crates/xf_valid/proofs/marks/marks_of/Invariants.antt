use Rattle.std.proofs.Common.{◌≡◌, map, take}
use Rattle.xf_valid.specs.Chain.{AreTold}
use Rattle.xf_valid.specs.Nodes.{marks_in}
use Rattle.xf_valid.proofs.Told.{numbers_of}
use Rattle.xf_valid.proofs.marks.marks_of.Given as goal

abbrev pub invariant-loop-node : goal.invariant-loop-node
invariant-loop-node l = record {
  told : AreTold l.table l.forest.forest.nodes l.chain.items;
  so_far : l.marks.items ≡ map (marks_in l.table l.forest.forest.nodes) (numbers_of (take l.node-index l.node-items));
}

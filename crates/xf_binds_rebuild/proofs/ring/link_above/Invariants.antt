use Rattle.std.proofs.Common.{length, map, take}
use Rattle.xf_def_forest.specs.declared.node.NodeId.{NodeId}
use Rattle.xf_graph.specs.Edges.{HasEdges}
use Rattle.xf_binds_rebuild.specs.Readers.{edge_with, reads_one}
use Rattle.xf_binds_rebuild.proofs.ring.link_above.Given as goal

abbrev pub invariant-loop-node : goal.invariant-loop-node
invariant-loop-node l = HasEdges l.graph (length l.fn.graph) (edge_with l.fn.graph l.place (reads_one l.fn.readers (map (λ (n : NodeId). n.number) (take l.node-index l.nodes))))

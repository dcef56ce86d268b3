use Rattle.std.proofs.Common.{length, take}
use Rattle.xf_graph.specs.Edges.{has, HasEdges}
use Rattle.xf_binds_rebuild.specs.Readers.{edge_with}
use Rattle.xf_binds_rebuild.proofs.ring.add_edges.Given as goal

abbrev pub invariant-loop-other : goal.invariant-loop-other
invariant-loop-other l = HasEdges l.graph (length l.fn.graph) (edge_with l.fn.graph l.vertex (has (take l.other-index l.others)))

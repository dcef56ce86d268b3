use Rattle.std.proofs.Common.{map, length}
use Rattle.xf_binds.specs.Held.{entries_in}
use Rattle.xf_graph.specs.Edges.{HasEdges}
use Rattle.xf_binds_rebuild.specs.Links.{source_on}
use Rattle.xf_binds_rebuild.specs.Readers.{edges_before}
use Rattle.xf_binds_rebuild.proofs.ring.graph_of.Given as goal

abbrev pub invariant-loop-place : goal.invariant-loop-place
invariant-loop-place l = HasEdges l.graph (length l.fn.nodes) (edges_before (map (source_on (entries_in l.fn.applied) l.fn.web) l.fn.nodes) l.place)

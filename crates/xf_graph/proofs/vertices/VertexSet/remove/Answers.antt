use Rattle.xf_graph.proofs.HasLemmas.{has-removed}
use Rattle.xf_graph.proofs.vertices.VertexSet.remove.Goals as goal

pub returns : goal.returns
returns c = rw (← c.self.view_is) (has-removed _ _ _ c.remove.ensures.updates.0)

use Rattle.xf_graph.proofs.HasLemmas.{has-added}
use Rattle.xf_graph.proofs.vertices.VertexSet.add.Goals as goal

pub returns-clause-ok : goal.returns-clause-ok
returns-clause-ok c = rw (← c.self.view_is) (has-added _ _ _ c.in_ok-insert.ensures.updates.0)

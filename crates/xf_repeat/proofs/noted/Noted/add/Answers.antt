use Rattle.xf_graph.proofs.HasLemmas.{has-added}
use Rattle.xf_repeat.proofs.noted.Noted.add.Goals as goal

pub returns : goal.returns
returns c = rw (← c.self.view_is) (has-added _ _ _ c.in_ok-insert.ensures.updates.0)

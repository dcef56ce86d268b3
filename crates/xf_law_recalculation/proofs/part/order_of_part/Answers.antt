use Rattle.xf_law_recalculation.proofs.PartLemmas.OfPart.{graph_of_part, order_of_part as law}
use Rattle.xf_law_recalculation.proofs.part.order_of_part.Goals as goal

pub returns-clause-graph : goal.returns-clause-graph
returns-clause-graph c = graph_of_part

pub returns-clause-acyclic : goal.returns-clause-acyclic
returns-clause-acyclic c = law

use Rattle.xf_law_bindings.proofs.Chains.{node_stands, node_stays}
use Rattle.xf_law_bindings.proofs.one_shape.Goals as goal

pub returns-clause-stays : goal.returns-clause-stays
returns-clause-stays c = node_stays

pub returns-clause-stands : goal.returns-clause-stands
returns-clause-stands c = node_stands

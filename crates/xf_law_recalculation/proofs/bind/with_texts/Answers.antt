use Rattle.xf_law_recalculation.proofs.BindLemmas.NodesWithTexts.{with_texts_of_nodes}
use Rattle.xf_law_recalculation.proofs.bind.with_texts.Goals as goal

pub returns : goal.returns
returns c = with_texts_of_nodes

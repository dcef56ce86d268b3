use Rattle.xf_law_rebuild.proofs.Elsewhere.{built_elsewhere as law, built_where_stays}
use Rattle.xf_law_rebuild.proofs.built_elsewhere.Goals as goal

pub returns-clause-part : goal.returns-clause-part
returns-clause-part c = law

pub returns-clause-stays : goal.returns-clause-stays
returns-clause-stays c = built_where_stays

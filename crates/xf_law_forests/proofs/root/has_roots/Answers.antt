use Rattle.xf_law_forests.proofs.RootLemmas.Stays.{empty_has_roots, stay_has_roots, root_at_place}
use Rattle.xf_law_forests.proofs.root.has_roots.Goals as goal

pub returns-clause-empty : goal.returns-clause-empty
returns-clause-empty c = empty_has_roots

pub returns-clause-stay : goal.returns-clause-stay
returns-clause-stay c = stay_has_roots

pub returns-clause-at_place : goal.returns-clause-at_place
returns-clause-at_place c = root_at_place

use Rattle.xf_law_sessions.proofs.PathLemmas.NamesFree.{names_free}
use Rattle.xf_law_sessions.proofs.PathLemmas.PathLaws.{path_names_one as one_law}
use Rattle.xf_law_sessions.proofs.path.path_names_one.Goals as goal

pub returns-clause-one : goal.returns-clause-one
returns-clause-one c = one_law

pub returns-clause-names : goal.returns-clause-names
returns-clause-names c = names_free

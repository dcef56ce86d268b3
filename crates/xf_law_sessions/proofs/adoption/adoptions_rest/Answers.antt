use Rattle.xf_law_sessions.proofs.AdoptionLemmas.Adoption.{adoption_laws}
use Rattle.xf_law_sessions.proofs.adoption.adoptions_rest.Goals as goal

pub returns : goal.returns
returns c = adoption_laws

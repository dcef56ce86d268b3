use Rattle.xf_law_recalculation.proofs.HeldLemmas.Held.{held_in_part as law}
use Rattle.xf_law_recalculation.proofs.HeldLemmas.Apart.{parts_apart}
use Rattle.xf_law_recalculation.proofs.held.held_in_part.Goals as goal

pub returns-clause-held : goal.returns-clause-held
returns-clause-held c = law

pub returns-clause-apart : goal.returns-clause-apart
returns-clause-apart c = parts_apart

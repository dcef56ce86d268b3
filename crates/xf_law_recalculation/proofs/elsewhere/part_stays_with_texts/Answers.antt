use Rattle.xf_law_recalculation.proofs.ElsewhereLemmas.Stays.{part_stays_numbered, part_stays_text, part_stays_written, part_stays_reserved}
use Rattle.xf_law_recalculation.proofs.elsewhere.part_stays_with_texts.Goals as goal

pub returns-clause-numbered : goal.returns-clause-numbered
returns-clause-numbered c = part_stays_numbered

pub returns-clause-text : goal.returns-clause-text
returns-clause-text c = part_stays_text

pub returns-clause-written : goal.returns-clause-written
returns-clause-written c = part_stays_written

pub returns-clause-reserved : goal.returns-clause-reserved
returns-clause-reserved c = part_stays_reserved

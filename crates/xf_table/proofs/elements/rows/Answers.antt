use Rattle.std.proofs.Common.{refl}
use Rattle.xf_table.specs.Contents.{element_entries}
use Rattle.xf_table.proofs.elements.rows.Goals as goal

pub returns-clause-rows : goal.returns-clause-rows
unfolding element_entries
returns-clause-rows c = refl

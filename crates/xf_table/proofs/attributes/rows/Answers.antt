use Rattle.std.proofs.Common.{refl}
use Rattle.xf_table.specs.Contents.{attribute_entries}
use Rattle.xf_table.proofs.attributes.rows.Goals as goal

pub returns-clause-rows : goal.returns-clause-rows
unfolding attribute_entries
returns-clause-rows c = refl

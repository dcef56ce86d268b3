use Rattle.std.proofs.Common.{refl}
use Rattle.xf_table.specs.Contents.{type_entries}
use Rattle.xf_table.proofs.types.rows.Goals as goal

pub returns-clause-rows : goal.returns-clause-rows
unfolding type_entries
returns-clause-rows c = refl

use Rattle.std.proofs.Common.{refl}
use Rattle.xf_table.specs.Contents.{function_entries}
use Rattle.xf_table.proofs.functions.rows.Goals as goal

pub returns-clause-rows : goal.returns-clause-rows
unfolding function_entries
returns-clause-rows c = refl

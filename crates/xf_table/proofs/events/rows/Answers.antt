use Rattle.std.proofs.Common.{refl}
use Rattle.xf_table.specs.Contents.{event_entries}
use Rattle.xf_table.proofs.events.rows.Goals as goal

pub returns-clause-rows : goal.returns-clause-rows
unfolding event_entries
returns-clause-rows c = refl

use Rattle.std.proofs.Common.{refl}
use Rattle.xf_table.proofs.RowLemmas.{code_at-entries_of}
use Rattle.xf_table.proofs.look_up.code_at.Goals as goal

pub returns : goal.returns
returns c = code_at-entries_of c.args.rows.now c.args.place _ refl

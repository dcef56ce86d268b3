use Rattle.xf_tree_rows.proofs.CutLemmas.{sized-take}
use Rattle.xf_tree_rows.proofs.parents.parent_row.Goals as goal

pub above_row-requires-clause-sized : goal.above_row-requires-clause-sized
above_row-requires-clause-sized c = sized-take c.args.at c.args.rows.now.items c.requires.sized

use Rattle.std.proofs.Common.{◌≡◌, map, take, drop, ◌++◌}
use Rattle.xf_tree_rows.specs.Rows.{deepened}
use Rattle.xf_tree_rows.proofs.rows.deepen_all.Given as goal

abbrev pub invariant-loop-row : goal.invariant-loop-row
invariant-loop-row l = l.rows ≡ map (deepened l.by) (take l.row-index l.fn.rows) ++ drop l.row-index l.fn.rows

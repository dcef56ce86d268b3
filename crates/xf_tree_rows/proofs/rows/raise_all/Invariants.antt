use Rattle.std.proofs.Common.{◌≡◌, map, take, drop, ◌++◌}
use Rattle.xf_tree_rows.specs.Rows.{raised}
use Rattle.xf_tree_rows.proofs.rows.raise_all.Given as goal

abbrev pub invariant-loop-row : goal.invariant-loop-row
invariant-loop-row l = l.rows ≡ map (raised l.by) (take l.row-index l.fn.rows) ++ drop l.row-index l.fn.rows

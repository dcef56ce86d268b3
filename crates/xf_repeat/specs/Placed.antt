-- Two indexes.
use Rattle.std.specs.Prelude.{Bool, ◌&&◌, ◌==◌}
use Rattle.xf_def_ui.specs.Index.{Index, same_node}

-- the same number and the same node, or none
abbrev pub is_same : Index → Index → Bool
is_same i j = (i.index == j.index) && same_node i.node j.node

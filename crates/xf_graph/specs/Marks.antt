-- The mark of each vertex: 0 where none was set.
use Rattle.std.specs.Prelude.{ℕ, nat_eq, nat_lt, if◌then◌else◌, length, slice_index, unwrap_or}
use Rattle.std.specs.HashMap.{get}
use Rattle.xf_graph.specs.declared.marks.Marks.{Marks}

abbrev pub mark_of : Marks → ℕ → ℕ
mark_of marks vertex =
    if nat_lt vertex (length marks.table.items) then slice_index marks.table.items vertex else unwrap_or (get nat_eq marks.others vertex) 0

-- The properties of nodes as an engine tells them (XForms 1.1, section 6.1).
use Rattle.std.specs.Prelude.{ℕ}
use Rattle.xf_def_ui.specs.declared.marks.Marks.{Marks}
use Rattle.xf_valid.specs.Nodes.{marks_in}
use Rattle.xf_engine_state.specs.declared.marks.Marked.{Marked}

abbrev pub properties_of : Marked → ℕ → Marks
properties_of m n = marks_in m.table.now m.forest.now.forest.nodes n

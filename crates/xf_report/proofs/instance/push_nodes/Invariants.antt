use Rattle.std.proofs.Common.{◌≡◌, ◌++◌, drop}
use Rattle.std.specs.Prelude.{string_bytes}
use Rattle.std.specs.List.{flat_map}
use Rattle.xf_report.specs.Lines.{line_at}
use Rattle.xf_report.proofs.instance.push_nodes.Given as goal

abbrev pub invariant-loop-at : goal.invariant-loop-at
invariant-loop-at g l = record {
  so_far : string_bytes l.text ++ flat_map (line_at l.braces (g.M.NodeMarks.marks_of l.marks) l.forest.forest.nodes) (drop l.at l.nodes)
      ≡ string_bytes l.fn.text ++ flat_map (line_at l.braces (g.M.NodeMarks.marks_of l.marks) l.forest.forest.nodes) l.nodes;
  same : l.paths ≡ l.forest;
}

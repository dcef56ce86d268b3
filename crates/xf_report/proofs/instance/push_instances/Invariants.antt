use Rattle.std.proofs.Common.{◌≡◌, ◌-◌, ◌++◌, length, string_bytes}
use Rattle.std.specs.List.{flat_map}
use Rattle.xf_def_machine.specs.Cycles.{counted_from}
use Rattle.xf_report.specs.Lines.{block_of}
use Rattle.xf_report.proofs.instance.push_instances.Given as goal

abbrev pub invariant-loop-place : goal.invariant-loop-place
invariant-loop-place g l =
    string_bytes l.text ++ flat_map (block_of (g.M.NodeMarks.marks_of l.marks) l.forest.forest.nodes l.instances) (counted_from l.place (length l.instances - l.place))
    ≡ string_bytes l.fn.text ++ flat_map (block_of (g.M.NodeMarks.marks_of l.marks) l.forest.forest.nodes l.instances) (counted_from 0 (length l.instances))

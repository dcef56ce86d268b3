use Rattle.std.proofs.Common.{◌≡◌, ◌++◌, length}
use Rattle.std.specs.Prelude.{string_bytes}
use Rattle.xf_def_forest.specs.StringValue.{string_value}
use Rattle.xf_def_forest.specs.Visit.{visits}
use Rattle.xf_def_forest.proofs.PieceLaws.{joined}
use Rattle.xf_report.proofs.instance.value_of.Given as goal

abbrev pub invariant-loop-piece : goal.invariant-loop-piece
invariant-loop-piece l = string_bytes l.text ++ joined l.pieces ≡ string_value l.fn.node.number (visits l.forest.forest.nodes)

abbrev pub decreases-loop-piece : goal.decreases-loop-piece
decreases-loop-piece l = length l.pieces

use Rattle.std.proofs.Common.{◌≡◌, ◌++◌, drop, string_bytes}
use Rattle.std.specs.List.{flat_map}
use Rattle.xf_report.specs.Controls.{behind_comma}
use Rattle.xf_report.proofs.control.push_more.Given as goal

abbrev pub invariant-loop-row : goal.invariant-loop-row
invariant-loop-row l = string_bytes l.text ++ flat_map behind_comma (drop l.row-index l.rows) ≡ string_bytes l.fn.text ++ flat_map behind_comma l.rows

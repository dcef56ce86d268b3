use Rattle.std.proofs.Common.{◌≡◌, ◌++◌, drop, string_bytes}
use Rattle.std.specs.List.{flat_map}
use Rattle.xf_test_vectors.specs.Report.{difference_line}
use Rattle.xf_test_vectors.proofs.report.push_differences.Given as goal

abbrev pub invariant-loop-outcome : goal.invariant-loop-outcome
invariant-loop-outcome l =
    string_bytes l.text ++ flat_map difference_line (drop l.outcome-index l.outcomes)
    ≡ string_bytes l.fn.text ++ flat_map difference_line l.outcomes

use Rattle.std.proofs.Common.{◌≡◌, ◌++◌, drop, map, string_bytes}
use Rattle.std.specs.List.{flat_map}
use Rattle.xf_test_vectors.specs.Report.{crate_line}
use Rattle.xf_test_vectors.proofs.report.push_crates.Given as goal

abbrev pub invariant-loop-name : goal.invariant-loop-name
invariant-loop-name l =
    string_bytes l.text ++ flat_map (crate_line l.outcomes) (map (λ name. name.now) (drop l.name-index l.names))
    ≡ string_bytes l.fn.text ++ flat_map (crate_line l.outcomes) (map (λ name. name.now) l.names)

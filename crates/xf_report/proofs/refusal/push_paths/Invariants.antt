use Rattle.std.proofs.Common.{◌≡◌, ◌++◌, drop, string_bytes}
use Rattle.std.specs.List.{flat_map}
use Rattle.xf_def_machine.specs.StateText.{spaced}
use Rattle.xf_report.proofs.refusal.push_paths.Given as goal

abbrev pub invariant-loop-path : goal.invariant-loop-path
invariant-loop-path l = string_bytes l.text ++ flat_map spaced (drop l.path-index l.paths) ≡ string_bytes l.fn.text ++ flat_map spaced l.paths

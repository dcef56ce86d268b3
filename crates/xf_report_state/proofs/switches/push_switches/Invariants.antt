use Rattle.std.proofs.Common.{◌≡◌, ◌++◌, drop, string_bytes}
use Rattle.std.specs.Prelude.{zip}
use Rattle.std.specs.List.{flat_map}
use Rattle.xf_def_ui.specs.Interface.{interface_of}
use Rattle.xf_report_state.specs.Parts.{switch_of}
use Rattle.xf_report_state.proofs.switches.push_switches.Given as goal

abbrev pub invariant-loop-at : goal.invariant-loop-at
invariant-loop-at l =
    let line = switch_of (interface_of l.over.form.now) in
    string_bytes l.text ++ flat_map line (zip (drop l.at l.switches) (drop l.at l.cases)) ≡ string_bytes l.fn.text ++ flat_map line (zip l.switches l.cases)

use Rattle.std.proofs.Common.{◌≡◌, ◌++◌, drop, map, string_bytes}
use Rattle.std.specs.List.{flat_map}
use Rattle.xf_def_ui.specs.Interface.{interface_of}
use Rattle.xf_eval_context.specs.Indexes.{seen_index}
use Rattle.xf_eval_context.specs.Over.{around_over}
use Rattle.xf_report_state.specs.Parts.{repeat_of}
use Rattle.xf_report_state.proofs.switches.push_repeats.Given as goal

abbrev pub invariant-loop-repeat : goal.invariant-loop-repeat
invariant-loop-repeat l =
    let line = repeat_of (interface_of l.over.form.now) (around_over l.over) (map seen_index l.indexes) in
    string_bytes l.text ++ flat_map line (drop l.repeat-index l.repeats) ≡ string_bytes l.fn.text ++ flat_map line l.repeats

use Rattle.std.proofs.Common.{◌≡◌, ◌++◌, [], drop, map, string_bytes}
use Rattle.xf_def_ui.specs.Interface.{interface_of}
use Rattle.xf_eval_context.specs.Over.{around_over}
use Rattle.xf_controls.specs.Seen.{seen_copy}
use Rattle.xf_report_state.specs.Levels.{AreLevels}
use Rattle.xf_report_state.specs.Parts.{copies_text}
use Rattle.xf_report_state.proofs.copies.push_copies.Given as goal

abbrev pub invariant-loop-copy : goal.invariant-loop-copy
invariant-loop-copy l =
    let f = interface_of l.over.form.now in
    let a = around_over l.over in
    record {
      levels : AreLevels f a [] l.levels.items;
      text : string_bytes l.text ++ copies_text f a (map seen_copy (drop l.copy-index l.copies)) ≡ string_bytes l.fn.text ++ copies_text f a (map seen_copy l.copies);
    }

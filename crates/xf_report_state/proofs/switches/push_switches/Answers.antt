use Rattle.std.proofs.Common.{◌≤◌, ◌++◌, length, sym, ap, ◌∙◌, append-nil, arith}
use Rattle.std.specs.Prelude.{min, string_bytes}
use Rattle.std.specs.List.{flat_map}
use Rattle.xf_def_ui.specs.Interface.{interface_of}
use Rattle.xf_report_state.specs.Parts.{switch_of}
use Rattle.xf_report_state.proofs.PartLaws.{zip-done}
use Rattle.xf_report_state.proofs.switches.push_switches.Goals as goal

pub returns : goal.returns
returns c =
    let line = switch_of (interface_of c.args.over.now.form.now) in
    let text = string_bytes c.loop-at.text in
    let last : min (length c.args.switches.now) (length c.args.cases.now) ≤ c.loop-at.at = omega (arith, c.loop-at-test.false, c.min-at-end.ensures) in
    sym (append-nil text) ∙ ap (λ z. text ++ flat_map line z) (sym (zip-done c.args.switches.now c.args.cases.now c.loop-at.at last)) ∙ c.loop-at.invariant

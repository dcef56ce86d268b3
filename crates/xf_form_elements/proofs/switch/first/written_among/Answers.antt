use Rattle.std.proofs.Common.{ℕ, ap, ◌∙◌}
use Rattle.std.specs.Prelude.{find}
use Rattle.xf_def_ui.specs.Cases.{is_written_selected}
use Rattle.xf_def_ui.specs.Elements.{element_at}
use Rattle.xf_def_ui.specs.Interface.{interface_of}
use Rattle.xf_form_elements.proofs.SwitchLemmas.CaseLaws.{no-case-at}
use Rattle.xf_form_elements.proofs.switch.first.written_among.Goals as goal

pub loop-part-preserved-in_default : goal.loop-part-preserved-in_default
loop-part-preserved-in_default c =
    let f = interface_of c.args.form.now in
    c.loop-part.invariant
    ∙ ap (find (λ (m : ℕ). is_written_selected (element_at f m).sort))
    (no-case-at f c.args.parts.now c.loop-part.part-index c.part-item.result c.loop-part-test.true c.part-item.is c.in_default.ensures)

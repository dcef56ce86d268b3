use Rattle.std.proofs.Common.{◌≡◌, drop}
use Rattle.std.specs.Prelude.{find}
use Rattle.xf_def_ui.specs.Cases.{is_written_selected}
use Rattle.xf_def_ui.specs.Elements.{element_at}
use Rattle.xf_def_ui.specs.Interface.{interface_of}
use Rattle.xf_form_elements.specs.Switch.Among.{cases_among}
use Rattle.xf_form_elements.proofs.switch.first.written_among.Given as goal

abbrev pub invariant-loop-part : goal.invariant-loop-part
invariant-loop-part l =
    find (λ m. is_written_selected (element_at (interface_of l.form) m).sort) (cases_among (interface_of l.form) l.parts)
    ≡ find (λ m. is_written_selected (element_at (interface_of l.form) m).sort) (cases_among (interface_of l.form) (drop l.part-index l.parts))
